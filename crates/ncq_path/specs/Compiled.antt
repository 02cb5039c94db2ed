-- When what a machine keeps is right. Only the crate's private clauses cite it.
use Rattle.std.specs.Prelude.{◌≡◌, ℕ, List}
use Rattle.ncq_path.specs.declared.path.Path.{Path}
use Rattle.ncq_path.specs.declared.link.Link.{Link}
use Rattle.ncq_path.specs.Paths.{expression}
use Rattle.ncq_path.specs.Formed.{IsWellFormed}
use Rattle.ncq_path.specs.Links.{ends_of, links}

-- the path is well formed, and the links and the last positions are its own
pub record IsCompiled (path : Path) (kept : List Link) (last : ℕ) : Type 0 where
  pub formed : IsWellFormed path
  pub linked : kept ≡ links (expression path) 0 1
  pub ended : last ≡ ends_of (expression path) 0 1

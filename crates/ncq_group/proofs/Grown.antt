-- Files that are added for the parts of an expression.
use Rattle.std.proofs.Common.{◌≡◌, ℕ, ◌≤◌, ◌+◌, Some, ◌⊎◌, inl, inr, refl, sym, ap, subst, arith}
use Rattle.std.proofs.lemmas.Bool.{cases_lt}
use Rattle.std.specs.FinMap.{get, insert}
use Rattle.ncq_plan.specs.declared.expr.Expr.{Expr}
use Rattle.ncq_plan.specs.Exprs.{World}
use Rattle.ncq_shelf.specs.Parts.{IsInput, IsPart}
use Rattle.ncq_shelf.specs.Parts.IsPart.{itself}
use Rattle.ncq_plan.specs.Exprs.{operators, rows_in}
use Rattle.ncq_plan.specs.WellFormed.{IsWellFormedExpr}
use Rattle.ncq_midfile.specs.Content.{IsContent}
use Rattle.ncq_midfile.specs.Files.{FileState}
use Rattle.ncq_shelf.specs.KeptFiles.{KeptFile, Files}
use Rattle.ncq_shelf.specs.Stands.{Stands, IsReadIn, IsGrounded}
use Rattle.ncq_shelf.specs.Contents.{IsUpTo, IsWide}
use Rattle.ncq_feed.specs.Feeds.{AreReady}
use Rattle.ncq_shelf.specs.Inputs.{AreInputs}
use Rattle.ncq_shelf.specs.declared.inputs.Inputs.{Inputs}
use Rattle.ncq_group.specs.Installs.{IsFresh}
use Rattle.ncq_group.specs.Grown.{IsGrown, OnlyUnread}
use Rattle.ncq_group.proofs.Collects.{read_more}
use Rattle.ncq_group.proofs.Added.{AreBelow, at_number, stays_added, from_added, grounded_added}

-- an input of a file has a file, so what has no file is read by none
pub unread_if_absent : (files : Files) (expr : Expr) → IsGrounded files → ((number : ℕ) → Stands files expr number → ⊥) → IsReadIn files expr → ⊥
unread_if_absent files expr grounded absent r = let b = grounded.inputs r.reader r.file expr r.at r.reads in absent b.0 b.2

module _ (now : ℕ) (world : World) where
  pub grown_none : (whole : Expr) (old : Files) (low : ℕ) → AreReady now world old → AreBelow old low → IsGrown whole now world old low old low
  grown_none whole old low ready below = record {
    ready = ready;
    stays = λ number file at. at;
    before = λ number file at less. at;
    fresh = λ number file at above. let b = below number file at in absurd (omega arith);
    below = below;
    dense = λ number above less. absurd (omega arith);
    order = omega arith;
    room = omega arith;
  }

  -- the parts of an inner expression are parts of the whole
  pub grown_within : (inner whole : Expr) (old : Files) (low : ℕ) (new : Files) (high : ℕ) → ((e : Expr) → IsPart e inner → IsPart e whole) → operators inner ≤ operators whole
      → IsGrown inner now world old low new high → IsGrown whole now world old low new high
  grown_within inner whole old low new high parts less g = record {
    ready = g.ready;
    stays = g.stays;
    before = g.before;
    fresh = λ number file at above. let f = g.fresh number file at above in (f.0, record { part = parts file.expr f.1.part; base = f.1.base; up_to = f.1.up_to });
    below = g.below;
    dense = g.dense;
    order = g.order;
    room = let r = g.room in omega arith;
  }

  pub grown_then : (first second whole : Expr) (old : Files) (low : ℕ) (mid : Files) (middle : ℕ) (new : Files) (high : ℕ)
      → ((e : Expr) → IsPart e first → IsPart e whole) → ((e : Expr) → IsPart e second → IsPart e whole) → operators first + operators second ≤ operators whole
      → IsGrown first now world old low mid middle → IsGrown second now world mid middle new high → IsGrown whole now world old low new high
  grown_then first second whole old low mid middle new high ones others less g h = record {
    ready = h.ready;
    stays = λ number file at. h.stays number file (g.stays number file at);
    before = λ number file at under. let o = g.order in g.before number file (h.before number file at (omega arith)) under;
    fresh = λ number file at above. elim (cases_lt number middle) [
      | inl under ↦ let f = g.fresh number file (h.before number file at under) above in (f.0, record { part = ones file.expr f.1.part; base = f.1.base; up_to = f.1.up_to })
      | inr over ↦ let f = h.fresh number file at over in (f.0, record { part = others file.expr f.1.part; base = f.1.base; up_to = f.1.up_to })
    ];
    below = h.below;
    dense = λ number above under. elim (cases_lt number middle) [
      | inl less_than ↦ let d = g.dense number above less_than in (d.0, h.stays number d.0 d.1)
      | inr over ↦ h.dense number over under
    ];
    order = let o = g.order in let p = h.order in omega arith;
    room = let r = g.room in let s = h.room in omega arith;
  }

  module _ (whole : Expr) (old : Files) (low : ℕ) (mid : Files) (number : ℕ) (new : Files) (content : FileState) (is : new ≡ insert mid number (record { expr = whole; uses = 0; content = content }))
      (g : IsGrown whole now world old low mid number) (absent : (other : ℕ) → Stands mid whole other → ⊥) where
    abbrev file_added : KeptFile
    file_added = record { expr = whole; uses = 0; content = content }

    pub stays_mid : (other : ℕ) (file : KeptFile) → get mid other ≡ Some file → get new other ≡ Some file
    stays_mid = stays_added whole mid number new content is g.ready.grounded g.below absent

    from_new : (other : ℕ) (file : KeptFile) → get new other ≡ Some file → ((other ≡ number) × (file ≡ file_added)) ⊎ (get mid other ≡ Some file)
    from_new = from_added whole mid number new content is g.ready.grounded g.below absent

    here_new : get new number ≡ Some file_added
    here_new = at_number whole mid number new content is g.ready.grounded g.below absent

    pub stands_added : Stands new whole number
    stands_added = record { file = file_added; at = here_new; of = refl }

    module _ (inputs : Inputs) (are : AreInputs mid whole inputs) where
      module _ (formed : IsWellFormedExpr whole) (wide : IsWide file_added) (upto : IsUpTo now content) (holds : IsContent now content.rows (rows_in whole world)) where
        ready_new : AreReady now world new
        ready_new = record {
          grounded = grounded_added whole mid number new content is g.ready.grounded g.below absent inputs are;
          formed = λ other file at. elim (from_new other file at) [
            | inl here ↦ subst (λ f. IsWellFormedExpr f.expr) (sym here.1) formed
            | inr before ↦ g.ready.formed other file before
          ];
          wide = λ other file at. elim (from_new other file at) [
            | inl here ↦ subst IsWide (sym here.1) wide
            | inr before ↦ g.ready.wide other file before
          ];
          up_to = λ other file at. elim (from_new other file at) [
            | inl here ↦ subst (λ f. IsUpTo now f.content) (sym here.1) upto
            | inr before ↦ g.ready.up_to other file before
          ];
          fits = λ other file at. elim (from_new other file at) [
            | inl here ↦ subst (λ f. IsContent now f.content.rows (rows_in f.expr world)) (sym here.1) holds
            | inr before ↦ g.ready.fits other file before
          ];
        }

        pub grown_add : content.base ≡ now → number + 1 ≤ low + operators whole → IsGrown whole now world old low new (number + 1)
        grown_add base room = record {
          ready = ready_new;
          stays = λ other file at. stays_mid other file (g.stays other file at);
          before = λ other file at less. elim (from_new other file at) [
            | inl here ↦ let o = g.order in let e = here.0 in absurd (omega arith)
            | inr before ↦ g.before other file before less
          ];
          fresh = λ other file at above. elim (from_new other file at) [
            | inl here ↦ subst (λ f. (f.uses ≡ 0) × IsFresh whole now f) (sym here.1) (refl, record { part = itself; base = base; up_to = upto })
            | inr before ↦ g.fresh other file before above
          ];
          below = λ other file at. elim (from_new other file at) [
            | inl here ↦ let e = here.0 in omega arith
            | inr before ↦ let b = g.below other file before in omega arith
          ];
          dense = λ other above under. elim (cases_lt other number) [
            | inl less ↦ let d = g.dense other above less in (d.0, stays_mid other d.0 d.1)
            | inr over ↦ let same : number ≡ other = omega arith in (file_added, subst (λ n. get new n ≡ Some file_added) same here_new)
          ];
          order = let o = g.order in omega arith;
          room = room;
        }

    pub unread_add : OnlyUnread (λ e. IsInput e whole) low mid → OnlyUnread (λ e. e ≡ whole) low new
    unread_add only other file at above = elim (from_new other file at) [
      | inl here ↦ inl (ap (λ f. f.expr) here.1)
      | inr before ↦ elim (only other file before above) [
        | inl reads ↦ inr (record { reader = number; file = file_added; at = here_new; reads = reads })
        | inr r ↦ inr (read_more stays_mid r)
      ]
    ]

-- what stands reads its inputs
pub unread_hit : (whole : Expr) (low : ℕ) (files : Files) (number : ℕ) → Stands files whole number → OnlyUnread (λ e. IsInput e whole) low files → OnlyUnread (λ e. e ≡ whole) low files
unread_hit whole low files number s only other file at above = elim (only other file at above) [
  | inl reads ↦ inr (record { reader = number; file = s.file; at = s.at; reads = subst (λ e. IsInput file.expr e) (sym s.of) reads })
  | inr r ↦ inr r
]

pub unread_none : (Such : Expr → Type 0) (low : ℕ) (files : Files) → AreBelow files low → OnlyUnread Such low files
unread_none Such low files below other file at above = let b = below other file at in absurd (omega arith)

pub unread_one : (input whole : Expr) (low : ℕ) (files : Files) → IsInput input whole → OnlyUnread (λ e. e ≡ input) low files → OnlyUnread (λ e. IsInput e whole) low files
unread_one input whole low files reads only other file at above = elim (only other file at above) [
  | inl same ↦ inl (subst (λ e. IsInput e whole) (sym same) reads)
  | inr r ↦ inr r
]

pub unread_two : (left right whole : Expr) (now : ℕ) (world : World) (low : ℕ) (mid : Files) (middle : ℕ) (new : Files) (high : ℕ) → IsInput left whole → IsInput right whole
    → OnlyUnread (λ e. e ≡ left) low mid → IsGrown right now world mid middle new high → OnlyUnread (λ e. e ≡ right) middle new → OnlyUnread (λ e. IsInput e whole) low new
unread_two left right whole now world low mid middle new high in_left in_right first g second other file at above = elim (cases_lt other middle) [
  | inl less ↦ elim (first other file (g.before other file at less) above) [
    | inl same ↦ inl (subst (λ e. IsInput e whole) (sym same) in_left)
    | inr r ↦ inr (read_more g.stays r)
  ]
  | inr over ↦ elim (second other file at over) [
    | inl same ↦ inl (subst (λ e. IsInput e whole) (sym same) in_right)
    | inr r ↦ inr r
  ]
]

-- A batch that is read section by section.
use Rattle.std.proofs.Common.{◌≡◌, ℕ, ◌+◌, Bool, true, false, List, [], ◌∷◌, ◌++◌, length, Option, Some, None, refl, sym, ap, ◌∙◌, subst, append_assoc}
use Rattle.std.specs.Prelude.{Result, Ok, Err, if◌then◌else◌}
use Rattle.std.specs.List.{AllByRecursion}
use Rattle.ncq_base.specs.Lines.{IsClean, lines_in}
use Rattle.ncq_base.proofs.LineLaws.{lines_in-clean, lines_in-cut}
use Rattle.ncq_pyx.specs.Faults.{block_of}
use Rattle.ncq_pyx.specs.Spells.{Gives}
use Rattle.ncq_pyx.specs.declared.error.PyxError.{PyxError}
use Rattle.ncq_pyx.specs.declared.error.PyxError.TheVariants.{BadLine, TooDeep, OutOfMemory}
use Rattle.ncq_pyx.specs.declared.item.Item.{Item}
use Rattle.ncq_source.specs.declared.change.Section.{Section}
use Rattle.ncq_script.specs.BatchReading.{Faults, IsMoved, IsParted, StartsSection, behind, said_from}
use Rattle.ncq_script.specs.Batches.{Groups, batch_of, grouped_from, groups, idle_then, in_front, is_idle, name_in, section_then, sections_from}
use Rattle.ncq_script.specs.SpellsBatch.{is_header}
use Rattle.ncq_script.proofs.GroupLaws.{Plain, groups-header, groups_parted}

abbrev pub Said : Type 0
Said = Result (List Section) PyxError

pub behind_err : (sections : List Section) (why : PyxError) → behind sections (Err why) ≡ Err why
behind_err [] why = refl
behind_err (section ∷ sections) why = ap (in_front section) (behind_err sections why)

pub behind_all : (sections : List Section) → behind sections (Ok []) ≡ Ok sections
behind_all [] = refl
behind_all (section ∷ sections) = ap (in_front section) (behind_all sections)

pub behind_push : (sections : List Section) (section : Section) (rest : Said) → behind (sections ++ section ∷ []) rest ≡ behind sections (in_front section rest)
behind_push [] section rest = refl
behind_push (first ∷ sections) section rest = ap (in_front first) (behind_push sections section rest)

faults_behind : (sections : List Section) (why : PyxError) (rest : Said) → Faults why rest → Faults why (behind sections rest)
faults_behind sections (BadLine n) rest h = ap (behind sections) h ∙ behind_err sections (BadLine n)
faults_behind sections (TooDeep n) rest h = ap (behind sections) h ∙ behind_err sections (TooDeep n)
faults_behind sections OutOfMemory rest h = tt

-- the first line of a text
pub cut : (text line more : List ℕ) → IsClean line → text ≡ line ++ 10 ∷ more → lines_in text ≡ line ∷ lines_in more
cut text line more clean is = ap lines_in is ∙ lines_in-cut line more clean

pub one_more : (all own new : List (List ℕ)) (text line more : List ℕ) → all ≡ own ++ lines_in text → IsClean line → text ≡ line ++ 10 ∷ more → new ≡ own ++ line ∷ [] → all ≡ new ++ lines_in more
one_more all own new text line more split clean is pushed =
    split ∙ ap (λ (left : List (List ℕ)). own ++ left) (cut text line more clean is) ∙ sym (append_assoc own (line ∷ []) (lines_in more))
    ∙ ap (λ (front : List (List ℕ)). front ++ lines_in more) (sym pushed)

pub plain_more : (own : List (List ℕ)) (line : List ℕ) → AllByRecursion Plain own → is_header line ≡ false → AllByRecursion Plain (own ++ line ∷ [])
plain_more [] line plain one = (one, tt)
plain_more (first ∷ own) line plain one = (plain.0, plain_more own line plain.1 one)

pub starts_header : (text line more : List ℕ) → IsClean line → text ≡ line ++ 10 ∷ more → is_header line ≡ true → StartsSection (lines_in text)
starts_header text line more clean is header = subst StartsSection (sym (cut text line more clean is)) header

pub starts_none : (text : List ℕ) → IsClean text → StartsSection (lines_in text)
starts_none text clean = subst StartsSection (sym (lines_in-clean text clean)) tt

module _ (limit : ℕ) where
  pub idle_one : (number : ℕ) (line : List ℕ) (more : List (List ℕ)) (rest : Said) → is_idle limit line ≡ true → idle_then limit number (line ∷ more) rest ≡ idle_then limit (number + 1) more rest
  idle_one number line more rest idle = ap (λ (t : Bool). if t then idle_then limit (number + 1) more rest else Err (BadLine number)) idle

  pub idle_fault : (number : ℕ) (line : List ℕ) (more : List (List ℕ)) (rest : Said) → is_idle limit line ≡ false → idle_then limit number (line ∷ more) rest ≡ Err (BadLine number)
  idle_fault number line more rest busy = ap (λ (t : Bool). if t then idle_then limit (number + 1) more rest else Err (BadLine number)) busy

  -- the lines before the first section decide first
  pub batch_parted : (lines front left : List (List ℕ)) → IsParted lines front left → batch_of limit lines ≡ idle_then limit 1 front (said_from limit (1 + length front) left)
  batch_parted lines front left parted = ap (grouped_from limit 1) (groups_parted lines front left parted)

  -- of a section first its first line decides, then the others, then what comes behind them
  pub said_header : (head : List ℕ) (lines own left : List (List ℕ)) (number : ℕ) → is_header head ≡ true → IsParted lines own left
      → said_from limit number (head ∷ lines) ≡ section_then (name_in head) number (block_of limit own) (said_from limit (number + 1 + length own) left)
  said_header head lines own left number header parted =
      ap (λ (g : Groups). sections_from limit number g.sections) (groups-header head lines header)
      ∙ ap (λ (g : Groups). section_then (name_in head) number (block_of limit g.front) (sections_from limit (number + 1 + length g.front) g.sections)) (groups_parted lines own left parted)

  pub nameless : (old : List Section) (head : List ℕ) (lines : List (List ℕ)) (number : ℕ) → is_header head ≡ true → name_in head ≡ None → behind old (said_from limit number (head ∷ lines)) ≡ Err (BadLine number)
  nameless old head lines number header none =
      ap (behind old) (ap (λ (g : Groups). sections_from limit number g.sections) (groups-header head lines header)
      ∙ ap (λ (name : Option (List ℕ)). section_then name number (block_of limit (groups lines).front) (sections_from limit (number + 1 + length (groups lines).front) (groups lines).sections)) none)
      ∙ behind_err old (BadLine number)

  module _ (old : List Section) (head : List ℕ) (lines own left : List (List ℕ)) (number : ℕ) (name : List ℕ) (header : is_header head ≡ true) (named : name_in head ≡ Some name) (parted : IsParted lines own left) where
    said : said_from limit number (head ∷ lines) ≡ section_then (Some name) number (block_of limit own) (said_from limit (number + 1 + length own) left)
    said = said_header head lines own left number header parted
        ∙ ap (λ (found : Option (List ℕ)). section_then found number (block_of limit own) (said_from limit (number + 1 + length own) left)) named

    pub takes : (new : List Section) (items : List Item) (next : ℕ) → Ok items ≡ block_of limit own → next ≡ number + 1 + length own → new ≡ old ++ record { source = name; items = items } ∷ []
        → behind new (said_from limit next left) ≡ behind old (said_from limit number (head ∷ lines))
    takes new items next says is pushed =
        ap (λ (sections : List Section). behind sections (said_from limit next left)) pushed
        ∙ behind_push old (record { source = name; items = items }) (said_from limit next left)
        ∙ ap (λ (n : ℕ). behind old (section_then (Some name) number (Ok items) (said_from limit n left))) is
        ∙ ap (λ (all : Result (List Item) PyxError). behind old (section_then (Some name) number all (said_from limit (number + 1 + length own) left))) says
        ∙ ap (behind old) (sym said)

    moved_fault : (why moved : PyxError) (all : Result (List Item) PyxError) (rest : Said) → Gives (Err why) all → IsMoved why number moved → Faults moved (section_then (Some name) number all rest)
    moved_fault why OutOfMemory all rest gives is = tt
    moved_fault (BadLine n) (BadLine m) all rest gives is = ap (λ (s : Result (List Item) PyxError). section_then (Some name) number s rest) (sym gives) ∙ ap (λ (k : ℕ). Err (BadLine k)) (sym is)
    moved_fault (BadLine n) (TooDeep m) all rest gives is = absurd is
    moved_fault (TooDeep n) (TooDeep m) all rest gives is = ap (λ (s : Result (List Item) PyxError). section_then (Some name) number s rest) (sym gives) ∙ ap (λ (k : ℕ). Err (TooDeep k)) (sym is)
    moved_fault (TooDeep n) (BadLine m) all rest gives is = absurd is
    moved_fault OutOfMemory (BadLine m) all rest gives is = absurd is
    moved_fault OutOfMemory (TooDeep m) all rest gives is = absurd is

    pub faulty : (why moved : PyxError) → Gives (Err why) (block_of limit own) → IsMoved why number moved → Faults moved (behind old (said_from limit number (head ∷ lines)))
    faulty why moved gives is =
        faults_behind old moved (said_from limit number (head ∷ lines))
        (subst (Faults moved) (sym said) (moved_fault why moved (block_of limit own) (said_from limit (number + 1 + length own) left) gives is))

-- What is spelled is well formed.
use Rattle.std.proofs.Common.{◌≡◌, ℕ, suc, Bool, true, false, List, [], ◌∷◌, length, map, Result, Ok, Err, IsTrue, refl, sym, ap, ◌∙◌, arith}
use Rattle.std.specs.Prelude.{◌&&◌, nat_lt, IfOk, Option}
use Rattle.std.specs.List.{list_all}
use Rattle.std.proofs.lemmas.Bool.{lt-ltb}
use Rattle.std.proofs.lemmas.Bool.Decides.{nat_tests}
use Rattle.ncq_base.specs.Names.{is_name, is_name_start, is_name_byte, is_pyx_name, is_pyx_name_byte}
use Rattle.ncq_token.specs.declared.token.Token.{Token}
use Rattle.ncq_token.specs.TokenNames.{is_well_named}
use Rattle.ncq_token.proofs.NameLaws.{tokens_well_named}
use Rattle.ncq_xmlql.specs.declared.model.PatternAttribute.{PatternAttribute}
use Rattle.ncq_xmlql.specs.declared.model.TemplateAttribute.{TemplateAttribute}
use Rattle.ncq_xmlql.specs.declared.model.Content.{Content}
use Rattle.ncq_xmlql.specs.declared.model.Content.TheVariants.{Parts}
use Rattle.ncq_xmlql.specs.declared.model.Suffix.{Suffix}
use Rattle.ncq_xmlql.specs.declared.model.Pattern.{Pattern}
use Rattle.ncq_xmlql.specs.declared.model.Operand.{Operand}
use Rattle.ncq_xmlql.specs.declared.model.Template.{Template}
use Rattle.ncq_xmlql.specs.declared.model.Template.TheVariants as template
use Rattle.ncq_xmlql.specs.declared.model.QueryItem.{QueryItem}
use Rattle.ncq_xmlql.specs.declared.model.Query.{Query}
use Rattle.ncq_xmlql.specs.declared.model.Statement.{Statement}
use Rattle.ncq_xmlql.specs.declared.statement.StatementError.{StatementError}
use Rattle.ncq_xmlql.specs.Reading.{names_of, names_differ}
use Rattle.ncq_xmlql.specs.TemplateReading.{template_attribute}
use Rattle.ncq_xmlql.specs.Grammar.{IsAttributes, IsWords, IsEnd, IsPathEnd, IsSuffix, IsPattern, IsContent, IsPatterns}
use Rattle.ncq_xmlql.specs.ItemGrammar.{IsLiteral, IsOperand, IsMatch, IsArgument, IsCondition, IsMore, IsItems}
use Rattle.ncq_xmlql.specs.TemplateGrammar.{IsElement, IsPart, IsParts, IsTop}
use Rattle.ncq_xmlql.specs.StatementGrammar.{IsComma, IsDistinct, IsQuery, IsSpelled}
use Rattle.ncq_xmlql.specs.Statements.{IsStatement, AreWithin}
use Rattle.ncq_xmlql.specs.Answered.{statement_of, GivesStatement}
use Rattle.ncq_xmlql.specs.WellFormed.{begins_with_match, item_is_whole, names_are_good, template_is_good, IsWellFormed}
use Rattle.ncq_path.specs.declared.path.Path.{Path}
use Rattle.ncq_path.specs.Formed.{is_formed}
use Rattle.ncq_xmlql.specs.PathGrammar.{IsPath, AreAlternatives, IsSeq, AreSteps, IsStep, IsItem}
use Rattle.ncq_xmlql.specs.PatternPaths.{pattern_paths, content_paths, item_paths, all_paths, is_few}
use Rattle.ncq_xmlql.proofs.PatternPathLaws.{paths_of_pattern, paths_of_value, paths_of_parts}
use Rattle.ncq_xmlql.proofs.JoinedLaws.{path_joined}
use Rattle.ncq_xmlql.proofs.Exact.{given}
use Rattle.ncq_xmlql.proofs.CallerLemmas.{good_variable, good_literal, good_element}

-- ---- names of statements are names of PYX

both : (a b : Bool) → (a && b) ≡ true → (a ≡ true) × (b ≡ true)
both true b e = (refl, e)
both false b e = absurd cc

byte_start : (b : ℕ) → is_name_start b ≡ true → is_pyx_name_byte b ≡ true
byte_start b h = grind (arith, nat_tests)

byte_in : (b : ℕ) → is_name_byte b ≡ true → is_pyx_name_byte b ≡ true
byte_in b h = grind (arith, nat_tests)

all_in : (bytes : List ℕ) → list_all is_name_byte bytes ≡ true → list_all is_pyx_name_byte bytes ≡ true
all_in [] h = refl
all_in (b ∷ bytes) h =
    let s = both (is_name_byte b) (list_all is_name_byte bytes) h in
    rw (byte_in b s.0, all_in bytes s.1) refl

pyx_name : (name : List ℕ) → is_name name ≡ true → is_pyx_name name ≡ true
pyx_name [] h = absurd cc
pyx_name (b ∷ bytes) h =
    let s = both (is_name_start b) (list_all is_name_byte bytes) h in
    let some : nat_lt 0 (suc (length bytes)) ≡ true = lt-ltb 0 (suc (length bytes)) (omega arith) in
    rw (some, byte_start b s.0, all_in bytes s.1) refl

-- ---- tokens of which each name is one

abbrev AreNamed : List Token → Type 0
AreNamed tokens = list_all is_well_named tokens ≡ true

pub record Attributed (attributes : List PatternAttribute) (behind : List Token) : Type 0 where
  pub names : list_all is_pyx_name (names_of attributes) ≡ true
  pub behind_named : AreNamed behind

attributes_named : {a b : List Token} {attributes : List PatternAttribute} → IsAttributes a attributes b → AreNamed a → Attributed attributes b
attributes_named IsAttributes.no_attribute named = record { names = refl; behind_named = named }
attributes_named {a = a} (IsAttributes.quoted {name = name} {a = rest} h) named =
    let s = both (is_name name) (list_all is_well_named rest) named in
    let m = attributes_named h s.1 in
    record { names = rw (pyx_name name s.0, m.names) refl; behind_named = m.behind_named }
attributes_named (IsAttributes.variable {name = name} {a = rest} h) named =
    let s = both (is_name name) (list_all is_well_named rest) named in
    let m = attributes_named h s.1 in
    record { names = rw (pyx_name name s.0, m.names) refl; behind_named = m.behind_named }

words_named : {a b : List Token} {text : List ℕ} → IsWords a text b → AreNamed a → AreNamed b
words_named IsWords.no_word named = named
words_named (IsWords.word h) named = words_named h named

end_named : {tag : List ℕ} {a b : List Token} → IsEnd tag a b → AreNamed a → AreNamed b
end_named (IsEnd.named {name = name} {a = rest} same) named = (both (is_name name) (list_all is_well_named rest) named).1
end_named IsEnd.unnamed named = named

path_end_named : {tag : Path} {a b : List Token} → IsPathEnd tag a b → AreNamed a → AreNamed b
path_end_named (IsPathEnd.named {name = name} {a = rest} same) named = (both (is_name name) (list_all is_well_named rest) named).1
path_end_named IsPathEnd.unnamed named = named

mutual
  path_named : {a b : List Token} {p : Path} → IsPath a p b → AreNamed a → AreNamed b
  path_named (IsPath.any first more) named = alternatives_named more (sequence_named first named)

  alternatives_named : {a b : List Token} {ps : List Path} → AreAlternatives a ps b → AreNamed a → AreNamed b
  alternatives_named AreAlternatives.no_alternative named = named
  alternatives_named (AreAlternatives.alternative first more) named = alternatives_named more (sequence_named first named)

  sequence_named : {a b : List Token} {p : Path} → IsSeq a p b → AreNamed a → AreNamed b
  sequence_named (IsSeq.each first more) named = steps_named more (step_named first named)

  steps_named : {a b : List Token} {ps : List Path} → AreSteps a ps b → AreNamed a → AreNamed b
  steps_named AreSteps.no_step named = named
  steps_named (AreSteps.next_step first more) named = steps_named more (step_named first named)

  step_named : {a b : List Token} {p : Path} → IsStep a p b → AreNamed a → AreNamed b
  step_named (IsStep.once item) named = item_named item named
  step_named (IsStep.star item) named = item_named item named
  step_named (IsStep.plus item) named = item_named item named

  item_named : {a b : List Token} {p : Path} → IsItem a p b → AreNamed a → AreNamed b
  item_named {b = b} (IsItem.name {n = n}) named = (both (is_name n) (list_all is_well_named b) named).1
  item_named (IsItem.group inner) named = path_named inner named

suffix_named : {a b : List Token} {s : Suffix} → IsSuffix a s b → AreNamed a → AreNamed b
suffix_named (IsSuffix.plain h) named = named
suffix_named (IsSuffix.element_as h) named = named
suffix_named (IsSuffix.content_as h) named = named

mutual
  pattern_named : {a b : List Token} {p : Pattern} → IsPattern a p b → AreNamed a → AreNamed b
  pattern_named (IsPattern.whole leads attrs differ content end suffix) named =
      suffix_named suffix (path_end_named end (content_named content (attributes_named attrs (path_named leads named)).behind_named))
  pattern_named (IsPattern.empty leads attrs differ suffix) named =
      suffix_named suffix (attributes_named attrs (path_named leads named)).behind_named

  content_named : {a b : List Token} {c : Content} → IsContent a c b → AreNamed a → AreNamed b
  content_named (IsContent.parts h) named = patterns_named h named
  content_named IsContent.variable named = named
  content_named IsContent.quoted named = named
  content_named (IsContent.words h) named = words_named h named

  patterns_named : {a b : List Token} {ps : List Pattern} → IsPatterns a ps b → AreNamed a → AreNamed b
  patterns_named IsPatterns.no_pattern named = named
  patterns_named (IsPatterns.pattern h hs) named = patterns_named hs (pattern_named h named)

literal_named : {a b : List Token} {text : List ℕ} → IsLiteral a text b → AreNamed a → AreNamed b
literal_named IsLiteral.quoted named = named
literal_named IsLiteral.word named = named

operand_named : {a b : List Token} {o : Operand} → IsOperand a o b → AreNamed a → AreNamed b
operand_named IsOperand.variable named = named
operand_named (IsOperand.literal h) named = literal_named h named

match_named : {a b : List Token} {item : QueryItem} → IsMatch a item b → AreNamed a → AreNamed b
match_named (IsMatch.matched {root = root} {a = rest} arms end keyword source) named =
    let s = both (is_name root) (list_all is_well_named rest) named in
    literal_named source (end_named end (patterns_named arms s.1))

argument_named : {a b : List Token} {argument : Option (List ℕ)} → IsArgument a argument b → AreNamed a → AreNamed b
argument_named IsArgument.quoted named = named
argument_named (IsArgument.word other) named = named
argument_named (IsArgument.none free) named = named

condition_named : {a b : List Token} {item : QueryItem} → IsCondition a item b → AreNamed a → AreNamed b
condition_named (IsCondition.compared left right some) named = operand_named right (operand_named left named)
condition_named (IsCondition.satisfied keyword argument) named = argument_named argument named

more_named : {a b : List Token} {items : List QueryItem} → IsMore a items b → AreNamed a → AreNamed b
more_named IsMore.no_more named = named
more_named (IsMore.more_match h hs) named = more_named hs (match_named h named)
more_named (IsMore.more_condition apart h hs) named = more_named hs (condition_named h named)

items_named : {a b : List Token} {items : List QueryItem} → IsItems a items b → AreNamed a → AreNamed b
items_named (IsItems.items h hs) named = more_named hs (match_named h named)

comma_named : {a b : List Token} → IsComma a b → AreNamed a → AreNamed b
comma_named IsComma.none named = named
comma_named IsComma.comma named = named

distinct_named : {a b : List Token} {d : Bool} → IsDistinct a d b → AreNamed a → AreNamed b
distinct_named IsDistinct.none named = named
distinct_named (IsDistinct.word h) named = named

-- ---- paths

tag_formed : {a b : List Token} {p : Path} → IsPath a p b → is_few p ≡ true → is_formed p ≡ true
tag_formed leads few = rw (few, path_joined leads) refl

mutual
  pattern_formed : {a b : List Token} {p : Pattern} → IsPattern a p b → pattern_paths is_few p ≡ true → pattern_paths is_formed p ≡ true
  pattern_formed (IsPattern.whole {tag = tag} {attributes = attributes} {content = content} {suffix = suffix} leads attrs differ inside end last) few =
      let p : Pattern = record { tag = tag; attributes = attributes; content = content; suffix = suffix } in
      let s = both (is_few tag) (content_paths is_few content) (sym (paths_of_pattern is_few p) ∙ few) in
      paths_of_pattern is_formed p ∙ rw (tag_formed leads s.0, content_formed inside s.1) refl
  pattern_formed (IsPattern.empty {tag = tag} {attributes = attributes} {suffix = suffix} leads attrs differ last) few =
      let p : Pattern = record { tag = tag; attributes = attributes; content = Parts []; suffix = suffix } in
      let s = both (is_few tag) (content_paths is_few (Parts [])) (sym (paths_of_pattern is_few p) ∙ few) in
      paths_of_pattern is_formed p ∙ rw (tag_formed leads s.0, paths_of_parts is_formed []) refl

  content_formed : {a b : List Token} {c : Content} → IsContent a c b → content_paths is_few c ≡ true → content_paths is_formed c ≡ true
  content_formed (IsContent.parts {ps = ps} h) few = paths_of_parts is_formed ps ∙ patterns_formed h (sym (paths_of_parts is_few ps) ∙ few)
  content_formed IsContent.variable few = paths_of_value is_formed _
  content_formed IsContent.quoted few = paths_of_value is_formed _
  content_formed (IsContent.words h) few = paths_of_value is_formed _

  patterns_formed : {a b : List Token} {ps : List Pattern} → IsPatterns a ps b → list_all (pattern_paths is_few) ps ≡ true → list_all (pattern_paths is_formed) ps ≡ true
  patterns_formed IsPatterns.no_pattern few = refl
  patterns_formed (IsPatterns.pattern {p = p} {ps = ps} h hs) few =
      let s = both (pattern_paths is_few p) (list_all (pattern_paths is_few) ps) few in
      rw (pattern_formed h s.0, patterns_formed hs s.1) refl

match_formed : {a b : List Token} {item : QueryItem} → IsMatch a item b → item_paths is_few item ≡ true → item_paths is_formed item ≡ true
match_formed (IsMatch.matched arms end keyword source) few = patterns_formed arms few

condition_formed : {a b : List Token} {item : QueryItem} → IsCondition a item b → item_paths is_formed item ≡ true
condition_formed (IsCondition.compared left right some) = refl
condition_formed (IsCondition.satisfied keyword argument) = refl

more_formed : {a b : List Token} {items : List QueryItem} → IsMore a items b → all_paths is_few items ≡ true → all_paths is_formed items ≡ true
more_formed IsMore.no_more few = refl
more_formed (IsMore.more_match {item = i} {more = is} h hs) few =
    let s = both (item_paths is_few i) (all_paths is_few is) few in
    rw (match_formed h s.0, more_formed hs s.1) refl
more_formed (IsMore.more_condition {item = i} {more = is} apart h hs) few =
    let s = both (item_paths is_few i) (all_paths is_few is) few in
    rw (condition_formed h, more_formed hs s.1) refl

items_formed : {a b : List Token} {items : List QueryItem} → IsItems a items b → all_paths is_few items ≡ true → all_paths is_formed items ≡ true
items_formed (IsItems.items {first = i} {more = is} h hs) few =
    let s = both (item_paths is_few i) (all_paths is_few is) few in
    rw (match_formed h s.0, more_formed hs s.1) refl

-- ---- items

match_whole : {a b : List Token} {item : QueryItem} → IsMatch a item b → item_is_whole item ≡ true
match_whole (IsMatch.matched arms end keyword source) = refl

condition_whole : {a b : List Token} {item : QueryItem} → IsCondition a item b → item_is_whole item ≡ true
condition_whole (IsCondition.compared left right some) = some
condition_whole (IsCondition.satisfied keyword argument) = refl

more_whole : {a b : List Token} {items : List QueryItem} → IsMore a items b → list_all item_is_whole items ≡ true
more_whole IsMore.no_more = refl
more_whole (IsMore.more_match h hs) = rw (match_whole h) (more_whole hs)
more_whole (IsMore.more_condition apart h hs) = rw (condition_whole h) (more_whole hs)

items_whole : {a b : List Token} {items : List QueryItem} → IsItems a items b → list_all item_is_whole items ≡ true
items_whole (IsItems.items h hs) = rw (match_whole h) (more_whole hs)

match_begins : {a b : List Token} {item : QueryItem} (more : List QueryItem) → IsMatch a item b → begins_with_match (item ∷ more) ≡ true
match_begins more (IsMatch.matched arms end keyword source) = refl

items_begin : {a b : List Token} {items : List QueryItem} → IsItems a items b → begins_with_match items ≡ true
items_begin (IsItems.items {more = more} h hs) = match_begins more h

-- ---- templates

element_is_good : (tag : List ℕ) (attributes : List TemplateAttribute) (content : List Template)
    → is_pyx_name tag ≡ true → names_are_good (map (λ a. a.name) attributes) ≡ true → list_all template_is_good content ≡ true
    → template_is_good (template.Element tag attributes content) ≡ true
element_is_good tag attributes content named names good = good_element tag attributes content ∙ rw (named, names, good) refl

names_kept : (attributes : List PatternAttribute) → map (λ a. a.name) (map template_attribute attributes) ≡ names_of attributes
names_kept [] = refl
names_kept (a ∷ attributes) = ap (λ (names : List (List ℕ)). a.name ∷ names) (names_kept attributes)

names_good : (attributes : List PatternAttribute) (behind : List Token) → Attributed attributes behind → IsTrue (names_differ attributes)
    → names_are_good (map (λ a. a.name) (map template_attribute attributes)) ≡ true
names_good attributes behind attributed differ = rw (names_kept attributes, attributed.names, differ) refl

pub record Good (t : Template) (behind : List Token) : Type 0 where
  pub is_good : template_is_good t ≡ true
  pub behind_named : AreNamed behind

pub record AreGood (ts : List Template) (behind : List Token) : Type 0 where
  pub are_good : list_all template_is_good ts ≡ true
  pub behind_named : AreNamed behind

mutual
  element_good : {a b : List Token} {t : Template} → IsElement a t b → AreNamed a → Good t b
  element_good (IsElement.whole {tag = tag} {attributes = attributes} {content = inside} {a = rest} {b = b} attrs differ content end) named =
      let s = both (is_name tag) (list_all is_well_named rest) named in
      let attributed = attributes_named attrs s.1 in
      let below = parts_good content attributed.behind_named in
      record {
        is_good = element_is_good tag (map template_attribute attributes) inside (pyx_name tag s.0) (names_good attributes _ attributed differ) below.are_good;
        behind_named = end_named end below.behind_named;
      }
  element_good (IsElement.empty {tag = tag} {attributes = attributes} {a = rest} attrs differ) named =
      let s = both (is_name tag) (list_all is_well_named rest) named in
      let attributed = attributes_named attrs s.1 in
      record {
        is_good = element_is_good tag (map template_attribute attributes) [] (pyx_name tag s.0) (names_good attributes _ attributed differ) refl;
        behind_named = attributed.behind_named;
      }

  part_good : {a b : List Token} {t : Template} → IsPart a t b → AreNamed a → Good t b
  part_good (IsPart.element h) named = element_good h named
  part_good (IsPart.variable {x = x}) named = record { is_good = good_variable x; behind_named = named }
  part_good (IsPart.quoted {text = text}) named = record { is_good = good_literal text; behind_named = named }
  part_good (IsPart.words h stop) named = record { is_good = good_literal _; behind_named = words_named h named }

  parts_good : {a b : List Token} {ts : List Template} → IsParts a ts b → AreNamed a → AreGood ts b
  parts_good IsParts.no_part named = record { are_good = refl; behind_named = named }
  parts_good (IsParts.part h hs) named =
      let first = part_good h named in
      let more = parts_good hs first.behind_named in
      record { are_good = rw (first.is_good, more.are_good) refl; behind_named = more.behind_named }

top_good : {a b : List Token} {t : Template} → IsTop a t b → AreNamed a → template_is_good t ≡ true
top_good (IsTop.variable {x = x}) named = good_variable x
top_good (IsTop.element h) named = (element_good h named).is_good

-- ---- statements

query_formed : {a b : List Token} {q : Query} → IsQuery a q b → AreNamed a → (begins_with_match q.items ≡ true) × (list_all item_is_whole q.items ≡ true) × (template_is_good q.template ≡ true) × (all_paths is_few q.items ≡ true → all_paths is_formed q.items ≡ true)
query_formed (IsQuery.query spelled before keyword asked_once top) named =
    (items_begin spelled, items_whole spelled, top_good top (distinct_named asked_once (comma_named before (items_named spelled named))), items_formed spelled)

statement_formed : {tokens : List Token} {st : Statement} → IsSpelled tokens st → AreNamed tokens → AreWithin st.query.items → IsWellFormed st
statement_formed (IsSpelled.statement create name where_ asked do_ argument written) named within =
    let q = query_formed asked named in
    record { begins = q.0; items = q.1; within = within; paths = q.3 within.3; template = q.2 }

pub spelled_formed : (text : List ℕ) (st : Statement) → IsStatement text st → AreWithin st.query.items → IsWellFormed st
spelled_formed text st h within = statement_formed h.spelled (tokens_well_named text h.tokens h.are_tokens) within

pub given_formed : (text : List ℕ) (answer : Result Statement StatementError) → GivesStatement answer (statement_of text) → IfOk answer (λ st. IsWellFormed st)
given_formed text (Ok st) h = let exact = given text (Ok st) h in spelled_formed text st exact.0 exact.2
given_formed text (Err e) h = tt

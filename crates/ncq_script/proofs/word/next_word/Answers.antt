use Rattle.std.proofs.Common.{◌≡◌, ◌++◌, ◌<◌, All, length, rules, sym}
use Rattle.std.specs.Prelude.{false}
use Rattle.std.proofs.lemmas.List.{take-append-drop}
use Rattle.ncq_script.specs.Words.{is_blank, StartsBlank}
use Rattle.ncq_script.proofs.WordLaws.{words-cut}
use Rattle.ncq_script.proofs.word.next_word.Goals as goal

pub returns : goal.returns
returns c =
    let text = c.skip_blanks-text.result.now in
    let end = c.word_end-end.result in
    let some : 0 < length text = search rules in
    let clean : All (λ b. is_blank b ≡ false) c.split_at.result.0.now = rw c.split_at.ensures.front c.word_end-end.ensures.clean in
    let behind : StartsBlank c.split_at.result.1.now = rw c.split_at.ensures.back c.word_end-end.ensures.behind in
    let cut : text ≡ c.split_at.result.0.now ++ c.split_at.result.1.now = rw (c.split_at.ensures.front, c.split_at.ensures.back) (sym (take-append-drop end text)) in
    rw (← c.skip_blanks-text.ensures.words) (words-cut text _ _ cut some c.skip_blanks-text.ensures.starts clean behind)

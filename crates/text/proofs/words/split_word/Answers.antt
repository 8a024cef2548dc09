use Rattle.std.proofs.Common.{◌∙◌, sym, length}
use Rattle.std.proofs.lemmas.Bool.{eqb-true}
use Rattle.text.proofs.Splitting.{words-none, words-next}
use Rattle.text.proofs.words.split_word.Goals as goal

pub returns-then-is_empty : goal.returns-then-is_empty
returns-then-is_empty c = words-none _ _ _ _ _ _ c.blanks.ensures c.split_at.ensures.back c.letters.ensures c.split_at-2.ensures.front c.split_at-2.ensures.back (eqb-true (length c.split_at-2.result.0.now) 0 (sym c.is_empty.ensures ∙ c.if-is_empty.true))

pub returns-else-is_empty : goal.returns-else-is_empty
returns-else-is_empty c = words-next _ _ _ _ _ _ c.blanks.ensures c.split_at.ensures.back c.letters.ensures c.split_at-2.ensures.front c.split_at-2.ensures.back (sym c.is_empty.ensures ∙ c.if-is_empty.false)

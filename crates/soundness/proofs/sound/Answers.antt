-- `sound` makes the tests of `checks`, in their order, on the parts that it cuts the image into.
-- Assumes nothing.
use mathlib.Core.Path.{sym, ◌∙◌}
use borrow.Author.Rules.{rules}
use Rattle.laws.proofs.Said.{no_left, yes_then}
use Rattle.layout.specs.Layout.{two}
use Rattle.soundness.proofs.Whole.{checks, answer}
use Rattle.soundness.proofs.sound.Goals as goal

pub returns-then-sound_trailer : goal.returns-then-sound_trailer
unfolding checks two
returns-then-sound_trailer c =
    answer _ _ _ _ _ c.from_be_bytes-n.result c.from.result _ c.in-Some.ensures.cases c.in-Some-split_last_chunk.ensures.cases (search rules) (search rules)
    (sym (yes_then _ _ _ (sym c.sound_trailer.ensures ∙ c.if-sound_trailer.true) (sym c.sound_content.ensures)))

pub returns-else-sound_trailer : goal.returns-else-sound_trailer
unfolding checks two
returns-else-sound_trailer c =
    answer _ _ _ _ _ c.from_be_bytes-n.result c.from_be_bytes-held.result _ c.in-Some.ensures.cases c.in-Some-split_last_chunk.ensures.cases (search rules) (search rules)
    (c.if-sound_trailer.false ∙ sym (no_left _ _ (sym c.sound_trailer.ensures ∙ c.if-sound_trailer.false)))

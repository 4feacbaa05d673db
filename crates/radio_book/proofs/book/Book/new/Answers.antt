use Rattle.std.proofs.Common.{sym, subst, ◌∙◌}
use Rattle.radio_book.specs.Sound.{IsSound}
use Rattle.radio_book.proofs.SoundSteps.{sound_empty}
use Rattle.radio_book.proofs.book.Book.new.Goals as goal

pub invariant_of-result : goal.invariant_of-result
invariant_of-result g c = subst IsSound (sym (c.over.ensures ∙ c.in_ok-tables.ensures.empty)) (sound_empty c.args.site.value)

use Rattle.std.proofs.Common.{◌≡◌, ◌≤◌, length}
use denote.Text.{Utf8}
use denote.Shadow.{shadow}
use Rattle.encoded_messages.specs.Words.{words_of, values_of}
use Rattle.encoded_messages.proofs.words.first_value.Given as goal

abbrev pub invariant-loop-word : goal.invariant-loop-word
invariant-loop-word l = record {
  text : shadow (Utf8 l.left);
  within : length l.left ≤ length l.fn.text;
  values : values_of l.fn.key (words_of l.fn.text) ≡ values_of l.fn.key (words_of l.left);
}

abbrev pub decreases-loop-word : goal.decreases-loop-word
decreases-loop-word l = length l.left

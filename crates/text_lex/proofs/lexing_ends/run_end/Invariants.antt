-- Each octet so far is one of the run's.
use Rattle.std.proofs.Common.{◌≡◌, ℕ, ◌-◌, ◌<◌, ◌≤◌, true, length, slice_index}
use Rattle.text_lex.specs.Octets.{is_one_of}
use Rattle.text_lex.proofs.lexing_ends.run_end.Given as goal

abbrev pub invariant-loop-at : goal.invariant-loop-at
invariant-loop-at l = record {
  forward : l.start ≤ l.at;
  within : l.at ≤ length l.text;
  each : (m : ℕ) → l.start ≤ m → m < l.at → is_one_of l.octets (slice_index l.text m) ≡ true;
}

abbrev pub decreases-loop-at : goal.decreases-loop-at
decreases-loop-at l = length l.initial.text - l.at

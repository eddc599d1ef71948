-- The definitions of agent_bytes computed at examples.
use Rattle.std.proofs.Common.{◌≡◌, [], ◌∷◌, Some, None, refl, inl, inr, lit<}
use Rattle.std.specs.Prelude.{codes}
use Rattle.agent_bytes.specs.Faults.{one_more, Rose}
use Rattle.agent_bytes.specs.Told.{gained, GainsPart, IsLonger}
use Rattle.agent_bytes.specs.Memory.{bytes_named}

-- a count goes up by one, and stays at its largest value
counts_one : one_more 0 ≡ 1
counts_one = refl

stays_at_the_top : one_more 18446744073709551615 ≡ 18446744073709551615
stays_at_the_top = refl

rose_by_one : Rose 0 1
rose_by_one = inl (lit< tt)

rose_at_the_top : Rose 18446744073709551615 18446744073709551615
rose_at_the_top = inr refl

-- "ab" and then "c" written to a sink that tells, and to one that doesn't
gains_abc : gained (Some (codes "ab")) (codes "c") ≡ Some (codes "abc")
gains_abc = refl

gains_untold : gained None (codes "c") ≡ None
gains_untold = refl

-- of "abc" the first two bytes were written
gains_two : GainsPart (Some []) (Some (codes "ab")) (codes "abc")
gains_two = record { count = 2; short = lit< tt; written = refl }

-- of two files with one name the first counts
first_named : bytes_named ((codes "f", codes "1") ∷ (codes "f", codes "2") ∷ []) (codes "f") ≡ Some (codes "1")
first_named = refl

none_named : bytes_named ((codes "f", codes "1") ∷ []) (codes "g") ≡ None
none_named = refl

longer_than_one : IsLonger (Some (bytes_named ((codes "f", codes "12") ∷ []))) (codes "f") 1
longer_than_one = lit< tt

-- Examples of settled agents, of lines of a journal and of frames that came, and which entries the program can hold, at
-- the bounds.
use Rattle.std.specs.Prelude.{◌≡◌, ℕ, zero, suc, pos, ◌<◌, List, [], ◌∷◌, None, Some, codes, refl}
use Rattle.std.specs.Fmt.{digits}
use Rattle.std.proofs.Common.{arith, subst}
use Rattle.std.proofs.lemmas.Bool.{false≢true}
use Rattle.hex.specs.Hex.{IsBytes, encode_with}
use Rattle.term_values.specs.BerReading.{front_of, identifier_of, length_at}
use Rattle.term_values.specs.Der.{identifier_octets, length_octets}
use Rattle.term_values.specs.Oid.{oid_in, subidentifier}
use Rattle.term_model.specs.declared.name.Rdn.{Rdn}
use Rattle.agent_model.specs.LogNames.{log_in, log_octets}
use Rattle.agent_model.specs.declared.agent_state.AgentState.{AgentState}
use Rattle.agent_model.specs.declared.agent_state.Association.{Association}
use Rattle.agent_model.specs.declared.agent_state.AssociationState.{AssociationState}
use Rattle.agent_model.specs.declared.agent_state.AssociationState.TheVariants.{Live, Closed}
use Rattle.agent_model.specs.declared.entry.Entry.{Entry}
use Rattle.agent_model.specs.declared.entry.Entry.TheVariants as entry
use Rattle.agent_model.specs.declared.entry.Why.TheVariants as why
use Rattle.agent_model.specs.AgentLimits.{shipped}
use Rattle.agent_model.specs.History.{came}
use Rattle.agent_model.specs.Settled.{IsDone, IsSettled}
use Rattle.agent_model.specs.Texts.{line}
use Rattle.agent_model.specs.TextLaws.{IsEntry}
use Rattle.term_model.proofs.ExampleNetwork.{network}
use Rattle.agent_model.proofs.StandingLaws.{numbered_alone}

-- an association for which two octets were placed
abbrev one_association : AssociationState → ℕ → AgentState
one_association state taken = record {
  schema = network;
  limits = shipped;
  objects = [];
  associations = record { title = None; state = state; next_own = pos 1; placed = 1 ∷ 2 ∷ []; taken = taken } ∷ [];
  operations = [];
  waiting = [];
  entries = 0;
}

-- nothing is left to do once it is closed and both were taken
settled_once_closed : IsSettled (one_association (Closed why.End) 2)
settled_once_closed number a found =
    let alone = numbered_alone
    (record { title = None; state = Closed why.End; next_own = pos 1; placed = 1 ∷ 2 ∷ []; taken = 2 })
    number a found in
    subst (λ (x : Association). IsDone (one_association (Closed why.End) 2) number x) alone.1
    (record { closed = refl; taken = refl; idle = refl })

not_settled_while_live : IsSettled (one_association Live 2) → ⊥
not_settled_while_live settled = absurd (let done = settled 1 _ refl in false≢true done.closed)

not_settled_with_octets_left : IsSettled (one_association (Closed why.End) 1) → ⊥
not_settled_with_octets_left settled = absurd (let done = settled 1 _ refl in cc)

-- the line of an association that is closed for a bad frame
bad_frame_line : line (entry.Closed 1 (why.BadFrame 12)) ≡ codes "closed 1 badframe 12\n"
unfolding digits
bad_frame_line = refl

-- the lines of an append to the log {logId = number : 5} that begins, and of an operation that ends for want of memory
abbrev log : List Rdn
log = record { attribute = 2 ∷ 999 ∷ 9 ∷ 7 ∷ 6 ∷ []; value = 0x02 ∷ 0x01 ∷ 0x05 ∷ [] } ∷ []

begun_line : line (entry.Begun 2 log) ≡ codes "begun 2 300E310C300A06058837090706020105\n"
unfolding digits encode_with subidentifier identifier_octets length_octets
begun_line = refl

-- the name is the one that its octets tell
log_told : log_in (log_octets log) ≡ Some log
unfolding oid_in subidentifier identifier_octets length_octets identifier_of length_at front_of
log_told = refl

starved_line : line (entry.Starved 3) ≡ codes "starved 3\n"
unfolding digits
starved_line = refl

-- a number has 64 bits, and an octet 8
greatest_number : IsEntry (entry.Closed 1 (why.BadFrame 18446744073709551615))
greatest_number = (omega arith, omega arith)

number_too_great : IsEntry (entry.Committed 18446744073709551616) → ⊥
number_too_great is = omega arith

octet_of_one : IsBytes (255 ∷ [])
octet_of_one zero = omega arith
octet_of_one (suc i) = omega arith

greatest_octet : IsEntry (entry.Opened 1 (255 ∷ []))
greatest_octet = (omega arith, octet_of_one)

octet_too_great : IsEntry (entry.Opened 1 (256 ∷ [])) → ⊥
octet_too_great is = let fits : 256 < 256 = is.1 0 in omega arith

-- a manager binds with octets that are no BIND, its answer of 12 octets is taken, and it is closed: only the BIND came
abbrev turned_away : List Entry
turned_away = entry.Opened 1 (1 ∷ []) ∷ entry.Taken 1 12 ∷ entry.Closed 1 why.End ∷ []

came_example : came 1 turned_away ≡ (1 ∷ []) ∷ []
came_example = refl

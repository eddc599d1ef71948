-- Examples of journals without room, computed: docs/PROFILE.md, section 7.
use Rattle.std.specs.Prelude.{◌≡◌, true, false, List, [], ◌∷◌, ℕ, refl}
use Rattle.std.specs.Fmt.{digits}
use Rattle.hex.specs.Hex.{encode_with}
use Rattle.term_values.specs.BerReading.{front_of, identifier_of, length_at}
use Rattle.term_values.specs.Der.{identifier_octets, length_octets}
use Rattle.term_values.specs.Octets.{integer_contents}
use Rattle.term_values.specs.Oid.{oid_in, subidentifier}
use Rattle.agent_model.specs.declared.agent_state.AgentState.{AgentState}
use Rattle.agent_model.specs.declared.agent_state.OperationState.TheVariants as operation
use Rattle.agent_model.specs.declared.entry.Entry.{Entry}
use Rattle.agent_model.specs.declared.entry.Entry.TheVariants as entry
use Rattle.agent_model.specs.declared.entry.Why.TheVariants as why
use Rattle.agent_model.specs.AgentLimits.{shipped}
use Rattle.term_model.proofs.ExampleNetwork.{network}
use Rattle.agent_model.specs.JournalRoom.{IsFilled, is_refused_behind, reserved, reserved_by_operation}
use Rattle.agent_model.specs.Journals.{replayed}
use Rattle.agent_model.specs.Starting.{started}
use Rattle.agent_model.specs.Stepping.{step}
use Rattle.agent_model.proofs.RoomLaws.{room_more, room_none}

-- the manager with the title 2.999.11.1 binds with the octets 3006060488370B01: a line of 26 octets
abbrev bind_octets : List ℕ
bind_octets = 0x30 ∷ 0x06 ∷ 0x06 ∷ 0x04 ∷ 0x88 ∷ 0x37 ∷ 0x0B ∷ 0x01 ∷ []

abbrev opens : Entry
opens = entry.Opened 1 bind_octets

-- its answer of 12 octets is taken: a line of 11 octets
abbrev takes : Entry
takes = entry.Taken 1 12

abbrev of_entries : ℕ → AgentState
of_entries count = started network (record shipped { entries = count }) []

abbrev of_text : ℕ → AgentState
of_text octets = started network (record shipped { text = octets }) []

-- before any entry none is reserved; for an association that is open two, for one that was turned away or is finished
-- one, for a closed one none
none_reserved : reserved (of_entries 5) ≡ 0
none_reserved = refl

two_reserved : reserved (replayed (of_entries 5) (opens ∷ [])) ≡ 2
unfolding step oid_in subidentifier integer_contents identifier_octets length_octets identifier_of length_at front_of
two_reserved = refl

one_reserved : reserved (replayed (of_entries 5) (entry.Opened 1 (0x30 ∷ 0x00 ∷ []) ∷ [])) ≡ 1
unfolding step oid_in subidentifier integer_contents identifier_octets length_octets identifier_of length_at front_of
one_reserved = refl

finished_reserves : reserved (replayed (of_entries 5) (opens ∷ takes ∷ entry.Finished 1 ∷ [])) ≡ 1
unfolding step oid_in subidentifier integer_contents identifier_octets length_octets identifier_of length_at front_of
finished_reserves = refl

closed_reserves : reserved
    (replayed (of_entries 5) (opens ∷ takes ∷ entry.Finished 1 ∷ entry.Closed 1 why.End ∷ [])) ≡ 0
unfolding step oid_in subidentifier integer_contents identifier_octets length_octets identifier_of length_at front_of
closed_reserves = refl

-- for an operation that waits two, for one that is granted one, for one that has ended none
operations_reserve : (reserved_by_operation operation.Waiting ≡ 2) × (reserved_by_operation (operation.Granted 0) ≡ 1)
    × (reserved_by_operation (operation.Ended 3) ≡ 0)
operations_reserve = (refl, refl, refl)

-- of 5 entries: an opening asks for three, then an arrival is refused, since 1 + 2 + 3 are more, and the answer is taken
opening_fits : is_refused_behind (of_entries 5) [] opens ≡ false
unfolding digits encode_with
opening_fits = refl

arrival_is_refused : is_refused_behind (of_entries 5) (opens ∷ []) (entry.Arrived 1 (0x30 ∷ 0x00 ∷ [])) ≡ true
unfolding step digits encode_with oid_in subidentifier integer_contents identifier_octets length_octets identifier_of
    length_at front_of
arrival_is_refused = refl

taking_fits : is_refused_behind (of_entries 5) (opens ∷ []) takes ≡ false
unfolding step digits encode_with oid_in subidentifier integer_contents identifier_octets length_octets identifier_of
    length_at front_of
taking_fits = refl

-- of 2 entries no opening fits, also none that would be turned away
opening_is_refused : is_refused_behind (of_entries 2) [] (entry.Opened 1 []) ≡ true
unfolding digits encode_with
opening_is_refused = refl

-- of the text: the opening asks for 26 + 64 * 2 octets, then the bytes that are taken for 26 + 11 + 64 * 2
opening_just_fits : is_refused_behind (of_text 154) [] opens ≡ false
unfolding digits encode_with
opening_just_fits = refl

opening_too_long : is_refused_behind (of_text 153) [] opens ≡ true
unfolding digits encode_with
opening_too_long = refl

taking_just_fits : is_refused_behind (of_text 165) (opens ∷ []) takes ≡ false
unfolding step digits encode_with oid_in subidentifier integer_contents identifier_octets length_octets identifier_of
    length_at front_of
taking_just_fits = refl

taking_too_long : is_refused_behind (of_text 164) (opens ∷ []) takes ≡ true
unfolding step digits encode_with oid_in subidentifier integer_contents identifier_octets length_octets identifier_of
    length_at front_of
taking_too_long = refl

-- what stands in a reserved place is never refused
close_fits : is_refused_behind (of_text 26) (opens ∷ []) (entry.Finished 1) ≡ false
unfolding step digits encode_with oid_in subidentifier integer_contents identifier_octets length_octets identifier_of
    length_at front_of
close_fits = refl

-- so a journal is filled by its first entry
filled_by_one : IsFilled (of_text 164) (opens ∷ takes ∷ entry.Finished 1 ∷ entry.Closed 1 why.End ∷ []) (opens ∷ [])
unfolding step digits encode_with oid_in subidentifier integer_contents identifier_octets length_octets identifier_of
    length_at front_of
filled_by_one = record {
  next = takes;
  others = entry.Finished 1 ∷ entry.Closed 1 why.End ∷ [];
  begins = refl;
  room = room_more (of_text 164) [] opens (room_none (of_text 164)) refl;
  refused = refl;
}

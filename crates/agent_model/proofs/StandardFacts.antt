-- Examples of the answers to a BIND and of what APDUs bring, computed: X.229, section 9; X.711, section 7.5;
-- docs/PROFILE.md, sections 4 and 7.
use Rattle.std.specs.Prelude.{◌≡◌, ℕ, pos, true, false, List, [], ◌∷◌, ◌++◌, None, Some, refl}
use Rattle.term_values.specs.BerReading.{front_of, identifier_of, length_at}
use Rattle.term_values.specs.Der.{identifier_octets, length_octets}
use Rattle.term_values.specs.Octets.{integer_contents, integer_in}
use Rattle.term_values.specs.Oid.{oid_in, subidentifier}
use Rattle.agent_model.specs.declared.agent_state.AgentState.{AgentState}
use Rattle.agent_model.specs.declared.agent_state.Association.{Association}
use Rattle.agent_model.specs.declared.agent_state.AssociationState.TheVariants as association
use Rattle.agent_model.specs.declared.agent_state.Operation.{Operation}
use Rattle.agent_model.specs.declared.agent_state.OperationState.TheVariants as operation
use Rattle.agent_model.specs.declared.agent_state.Work.TheVariants as work
use Rattle.agent_model.specs.declared.entry.Entry.TheVariants as entry
use Rattle.agent_model.specs.declared.entry.Why.TheVariants as why
use Rattle.term_model.specs.declared.request.IdRef.TheVariants.{Global}
use Rattle.term_model.specs.declared.request.Named.TheVariants as named
use Rattle.term_model.specs.declared.request.Request.{Request}
use Rattle.term_model.specs.declared.request.Request.TheVariants as request
use Rattle.agent_model.specs.AgentLimits.{shipped}
use Rattle.term_model.specs.Arriving.{Arriving}
use Rattle.term_model.specs.Arriving.Arriving.{NoEffect}
use Rattle.term_model.specs.GetRequest.{get_request, head_alone}
use Rattle.term_model.specs.SentApdus.{sent_reply}
use Rattle.term_model.proofs.ExampleNetwork.{element_oid, network}
use Rattle.agent_model.specs.Journals.{out}
use Rattle.agent_model.specs.Placing.{Sent, bytes_for}
use Rattle.agent_model.specs.Receiving.{badly_structured_apdu, duplicate_invocation, is_in_use, mistyped_apdu}
use Rattle.agent_model.specs.Receiving.{mistyped_argument, received, unrecognised_apdu, unrecognised_operation}
use Rattle.agent_model.specs.Starting.{started}
use Rattle.agent_model.specs.Stepping.{effect, step}

-- the manager with the title 2.999.11.1 binds with the octets 3006060488370B01
abbrev title : List ℕ
title = 2 ∷ 999 ∷ 11 ∷ 1 ∷ []

abbrev bind_octets : List ℕ
bind_octets = 0x30 ∷ 0x06 ∷ 0x06 ∷ 0x04 ∷ 0x88 ∷ 0x37 ∷ 0x0B ∷ 0x01 ∷ []

abbrev first_agent : AgentState
first_agent = started network shipped []

-- it is accepted, with the number 1
abbrev accepted_association : Association
accepted_association = record {
  title = Some title;
  state = association.Live;
  next_own = pos 1;
  placed = 0x00 ∷ 0x00 ∷ 0x00 ∷ 0x08 ∷ 0x30 ∷ 0x06 ∷ 0x0A ∷ 0x01 ∷ 0x00 ∷ 0x02 ∷ 0x01 ∷ 0x01 ∷ [];
  taken = 0;
}

abbrev admitted : AgentState
admitted = record first_agent { associations = accepted_association ∷ []; entries = 1 }

is_accepted : step first_agent (entry.Opened 1 bind_octets) ≡ admitted
unfolding step oid_in subidentifier integer_contents identifier_octets length_octets identifier_of length_at front_of
is_accepted = refl

-- a second one with this title is turned away, titleInUse(1): it has no title, and is finished
abbrev turned_away : ℕ → ℕ → Association
turned_away answer number = record {
  title = None;
  state = association.Finished;
  next_own = pos 1;
  placed = 0x00 ∷ 0x00 ∷ 0x00 ∷ 0x08 ∷ 0x30 ∷ 0x06 ∷ 0x0A ∷ 0x01 ∷ answer ∷ 0x02 ∷ 0x01 ∷ number ∷ [];
  taken = 0;
}

title_is_in_use : (step admitted (entry.Opened 2 bind_octets)).associations
    ≡ accepted_association ∷ turned_away 1 2 ∷ []
unfolding step oid_in subidentifier integer_contents identifier_octets length_octets identifier_of length_at front_of
title_is_in_use = refl

-- octets that are no BIND are answered badBind(2): 3000 is a SEQUENCE without a title
no_bind : (step first_agent (entry.Opened 1 (0x30 ∷ 0x00 ∷ []))).associations ≡ turned_away 2 1 ∷ []
unfolding step oid_in subidentifier integer_contents identifier_octets length_octets identifier_of length_at front_of
no_bind = refl

-- where there may be no more associations, tooMany(3) comes before titleInUse, and badBind before it
abbrev full : AgentState
full = record admitted { limits = record shipped { associations = 1 } }

too_many_open : (step full (entry.Opened 2 bind_octets)).associations ≡ accepted_association ∷ turned_away 3 2 ∷ []
unfolding step oid_in subidentifier integer_contents identifier_octets length_octets identifier_of length_at front_of
too_many_open = refl

bad_before_too_many : (step full (entry.Opened 2 (0x30 ∷ 0x00 ∷ []))).associations
    ≡ accepted_association ∷ turned_away 2 2 ∷ []
unfolding step oid_in subidentifier integer_contents identifier_octets length_octets identifier_of length_at front_of
bad_before_too_many = refl

-- once the first one is closed, its title is free again
title_is_free : out full 2 (entry.Closed 1 why.ReadFault ∷ entry.Opened 2 bind_octets ∷ [])
    ≡ 0x00 ∷ 0x00 ∷ 0x00 ∷ 0x08 ∷ 0x30 ∷ 0x06 ∷ 0x0A ∷ 0x01 ∷ 0x00 ∷ 0x02 ∷ 0x01 ∷ 0x02 ∷ []
unfolding step oid_in subidentifier integer_contents identifier_octets length_octets identifier_of length_at front_of
title_is_free = refl

-- an entry that may not stand there changes nothing: the next association has the number 2
not_the_next : step admitted (entry.Opened 3 bind_octets) ≡ admitted
unfolding step
not_the_next = refl

-- what is sent for an APDU of the association 1, which has nothing outstanding
abbrev answer_to_apdu : List ℕ → Sent
answer_to_apdu apdu = (effect admitted (entry.Arrived 1 apdu)).sent

abbrev Brings : List ℕ → Arriving → Sent → Type 0
Brings apdu brings sent = (received admitted 1 apdu ≡ brings) × (answer_to_apdu apdu ≡ sent)

-- a general problem of it, and a problem of the invoke 1
abbrev general_problem : ℕ → Sent
general_problem problem =
    (1, 0x00 ∷ 0x00 ∷ 0x00 ∷ 0x07 ∷ 0xA4 ∷ 0x05 ∷ 0x05 ∷ 0x00 ∷ 0x80 ∷ 0x01 ∷ problem ∷ []) ∷ []

abbrev invoke_problem : ℕ → Sent
invoke_problem problem =
    (1, 0x00 ∷ 0x00 ∷ 0x00 ∷ 0x08 ∷ 0xA4 ∷ 0x06 ∷ 0x02 ∷ 0x01 ∷ 0x01 ∷ 0x81 ∷ 0x01 ∷ problem ∷ []) ∷ []

-- what is no BER value, or more than one: general problem 2, badlyStructuredAPDU
first_octet_alone : Brings (0xA1 ∷ []) badly_structured_apdu (general_problem 2)
unfolding oid_in subidentifier integer_in integer_contents identifier_octets length_octets identifier_of length_at
    front_of
first_octet_alone = (refl, refl)

length_forbidden : Brings (0xA1 ∷ 0xFF ∷ []) badly_structured_apdu (general_problem 2)
unfolding oid_in subidentifier integer_in integer_contents identifier_octets length_octets identifier_of length_at
    front_of
length_forbidden = (refl, refl)

contents_too_short : Brings (0xA1 ∷ 0x84 ∷ 0x00 ∷ 0xFF ∷ 0xFF ∷ 0xFF ∷ []) badly_structured_apdu (general_problem 2)
unfolding oid_in subidentifier integer_in integer_contents identifier_octets length_octets identifier_of length_at
    front_of
contents_too_short = (refl, refl)

part_too_short : Brings (0xA1 ∷ 0x01 ∷ 0x02 ∷ []) badly_structured_apdu (general_problem 2)
unfolding oid_in subidentifier integer_in integer_contents identifier_octets length_octets identifier_of length_at
    front_of
part_too_short = (refl, refl)

octet_left_over : Brings (0xA1 ∷ 0x03 ∷ 0x02 ∷ 0x01 ∷ 0x01 ∷ 0x00 ∷ []) badly_structured_apdu (general_problem 2)
unfolding oid_in subidentifier integer_in integer_contents identifier_octets length_octets identifier_of length_at
    front_of
octet_left_over = (refl, refl)

-- a value of another tag, or a primitive one: general problem 0, unrecognizedAPDU
sequence : Brings (0x30 ∷ 0x00 ∷ []) unrecognised_apdu (general_problem 0)
unfolding oid_in subidentifier integer_in integer_contents identifier_octets length_octets identifier_of length_at
    front_of
sequence = (refl, refl)

primitive_choice : Brings (0x81 ∷ 0x00 ∷ []) unrecognised_apdu (general_problem 0)
unfolding oid_in subidentifier integer_in integer_contents identifier_octets length_octets identifier_of length_at
    front_of
primitive_choice = (refl, refl)

-- an Invoke without its parts, or with an invoke id of more than 32 bits: general problem 1, mistypedAPDU
invoke_of_nothing : Brings (0xA1 ∷ 0x00 ∷ []) mistyped_apdu (general_problem 1)
unfolding oid_in subidentifier integer_in integer_contents identifier_octets length_octets identifier_of length_at
    front_of
invoke_of_nothing = (refl, refl)

invoke_of_null : Brings (0xA1 ∷ 0x02 ∷ 0x05 ∷ 0x00 ∷ []) mistyped_apdu (general_problem 1)
unfolding oid_in subidentifier integer_in integer_contents identifier_octets length_octets identifier_of length_at
    front_of
invoke_of_null = (refl, refl)

invoke_id_too_long : Brings
    (0xA1 ∷ 0x0A ∷ 0x02 ∷ 0x05 ∷ 0x01 ∷ 0x00 ∷ 0x00 ∷ 0x00 ∷ 0x00 ∷ 0x02 ∷ 0x01 ∷ 0x03 ∷ []) mistyped_apdu (general_problem 1)
unfolding oid_in subidentifier integer_in integer_contents identifier_octets length_octets identifier_of length_at
    front_of
invoke_id_too_long = (refl, refl)

-- so is one of an operation's number of more than 64 bits
operation_too_long : Brings
    (0xA1 ∷ 0x0E ∷ 0x02 ∷ 0x01 ∷ 0x01 ∷ 0x02 ∷ 0x09 ∷ 0x01 ∷ 0x00 ∷ 0x00 ∷ 0x00 ∷ 0x00 ∷ 0x00 ∷ 0x00 ∷ 0x00 ∷ 0x00 ∷ [])
    mistyped_apdu (general_problem 1)
unfolding oid_in subidentifier integer_in integer_contents identifier_octets length_octets identifier_of length_at
    front_of
operation_too_long = (refl, refl)

-- an operation that is none, and one that is the agent's alone: problem 1 of an invoke, unrecognizedOperation
operation_99 : Brings
    (0xA1 ∷ 0x06 ∷ 0x02 ∷ 0x01 ∷ 0x01 ∷ 0x02 ∷ 0x01 ∷ 0x63 ∷ []) (unrecognised_operation (pos 1)) (invoke_problem 1)
unfolding oid_in subidentifier integer_in integer_contents identifier_octets length_octets identifier_of length_at
    front_of
operation_99 = (refl, refl)

linked_reply_invoked : Brings
    (0xA1 ∷ 0x06 ∷ 0x02 ∷ 0x01 ∷ 0x01 ∷ 0x02 ∷ 0x01 ∷ 0x02 ∷ []) (unrecognised_operation (pos 1)) (invoke_problem 1)
unfolding oid_in subidentifier integer_in integer_contents identifier_octets length_octets identifier_of length_at
    front_of
linked_reply_invoked = (refl, refl)

-- an m-Get without an argument: problem 2 of an invoke, mistypedArgument
get_without_argument : Brings
    (0xA1 ∷ 0x06 ∷ 0x02 ∷ 0x01 ∷ 0x01 ∷ 0x02 ∷ 0x01 ∷ 0x03 ∷ []) (mistyped_argument (pos 1)) (invoke_problem 2)
unfolding oid_in subidentifier integer_in integer_contents identifier_octets length_octets identifier_of length_at
    front_of
get_without_argument = (refl, refl)

-- a Result of the manager has no effect
result_of_manager : Brings (0xA2 ∷ 0x03 ∷ 0x02 ∷ 0x01 ∷ 0x01 ∷ []) NoEffect []
unfolding oid_in subidentifier integer_in integer_contents identifier_octets length_octets identifier_of length_at
    front_of
result_of_manager = (refl, refl)

-- the frame of a reject is placed behind the answer to the BIND
reject_is_placed : out admitted 1 (entry.Arrived 1 (0x30 ∷ 0x00 ∷ []) ∷ []) ≡ accepted_association.placed
    ++ (0x00 ∷ 0x00 ∷ 0x00 ∷ 0x07 ∷ 0xA4 ∷ 0x05 ∷ 0x05 ∷ 0x00 ∷ 0x80 ∷ 0x01 ∷ 0x00 ∷ [])
unfolding step integer_in integer_contents identifier_octets length_octets identifier_of length_at front_of
reject_is_placed = refl

-- an m-Get of the root with the invoke id 7, which is granted
abbrev get_of_root : Operation
get_of_root = record { work = work.Asked 1 (pos 7) (get_request element_oid []); state = operation.Granted 5 }

-- a reject that no longer fits closes the association, which keeps what was placed for it
abbrev narrow : AgentState
narrow = record admitted { limits = record shipped { untaken = 22 } }

overrun_closes : (step narrow (entry.Arrived 1 (0x30 ∷ 0x00 ∷ []))).associations
    ≡ record accepted_association { state = association.Overrun } ∷ []
unfolding step integer_in integer_contents identifier_octets length_octets identifier_of length_at front_of
overrun_closes = refl

just_fits : (step (record narrow { limits = record shipped { untaken = 23 } }) (entry.Arrived 1
    (0x30 ∷ 0x00 ∷ []))).associations ≡ record accepted_association {
      placed =
          accepted_association.placed ++
          (0x00 ∷ 0x00 ∷ 0x00 ∷ 0x07 ∷ 0xA4 ∷ 0x05 ∷ 0x05 ∷ 0x00 ∷ 0x80 ∷ 0x01 ∷ 0x00 ∷ []);
    } ∷ []
unfolding step integer_in integer_contents identifier_octets length_octets identifier_of length_at front_of
just_fits = refl

-- its operations end with it, at the entry's place
overrun_ends : (step (record narrow { operations = get_of_root ∷ []; entries = 9 }) (entry.Arrived 1
    (0x30 ∷ 0x00 ∷ []))).operations ≡ record get_of_root { state = operation.Ended 9 } ∷ []
unfolding step integer_in integer_contents identifier_octets length_octets identifier_of length_at front_of
overrun_ends = refl

-- m-Cancel-Get with the id 8 of what was invoked under the id 7. Of nothing: noSuchInvokeId, 22, with the id
abbrev cancel_octets : List ℕ
cancel_octets = 0xA1 ∷ 0x09 ∷ 0x02 ∷ 0x01 ∷ 0x08 ∷ 0x02 ∷ 0x01 ∷ 0x0A ∷ 0x02 ∷ 0x01 ∷ 0x07 ∷ []

cancels_nothing : answer_to_apdu cancel_octets
    ≡ (
      1,
      0x00 ∷ 0x00 ∷ 0x00 ∷ 0x0B ∷ 0xA3 ∷ 0x09 ∷ 0x02 ∷ 0x01 ∷ 0x08 ∷ 0x02 ∷ 0x01 ∷ 0x16 ∷ 0x02 ∷ 0x01 ∷ 0x07 ∷ [],
    ) ∷ []
unfolding sent_reply oid_in subidentifier integer_in integer_contents identifier_octets length_octets identifier_of
    length_at front_of
cancels_nothing = refl

-- of a Get that is granted: its error operationCancelled, 23, and then the empty result of the cancel; the Get ends at
-- the entry's place
abbrev got : AgentState
got = record admitted { operations = get_of_root ∷ []; entries = 9 }

cancels_get : effect got (entry.Arrived 1 cancel_octets) ≡ record {
  agent = record got { operations = record get_of_root { state = operation.Ended 9 } ∷ [] };
  sent = (
    1,
    0x00 ∷ 0x00 ∷ 0x00 ∷ 0x08 ∷ 0xA3 ∷ 0x06 ∷ 0x02 ∷ 0x01 ∷ 0x07 ∷ 0x02 ∷ 0x01 ∷ 0x17 ∷
        0x00 ∷ 0x00 ∷ 0x00 ∷ 0x05 ∷ 0xA2 ∷ 0x03 ∷ 0x02 ∷ 0x01 ∷ 0x08 ∷ [],
  ) ∷ [];
}
unfolding sent_reply oid_in subidentifier integer_in integer_contents identifier_octets length_octets identifier_of
    length_at front_of
cancels_get = refl

-- where its association is closed, a Get that is granted ends without a reply, at the entry's place
closed_ends : effect got (entry.Closed 1 why.WriteFault) ≡ record {
  agent = record got {
    associations = record accepted_association { state = association.Closed why.WriteFault } ∷ [];
    operations = record get_of_root { state = operation.Ended 9 } ∷ [];
  };
  sent = [];
}
closed_ends = refl

-- of what is no Get: mistypedOperation, 21, and it goes on
abbrev set_nothing : Request
set_nothing =
    request.Set (head_alone (Global element_oid) (record { raw = 0xA4 ∷ 0x00 ∷ []; named = named.Object [] })) [] true

abbrev set_of_root : Operation
set_of_root = record { work = work.Asked 1 (pos 7) set_nothing; state = operation.Granted 5 }

cancels_no_set : effect (record admitted { operations = set_of_root ∷ [] }) (entry.Arrived 1 cancel_octets) ≡ record {
  agent = record admitted { operations = set_of_root ∷ [] };
  sent =
      (1, 0x00 ∷ 0x00 ∷ 0x00 ∷ 0x08 ∷ 0xA3 ∷ 0x06 ∷ 0x02 ∷ 0x01 ∷ 0x08 ∷ 0x02 ∷ 0x01 ∷ 0x15 ∷ []) ∷ [];
}
unfolding sent_reply oid_in subidentifier integer_in integer_contents identifier_octets length_octets identifier_of
    length_at front_of
cancels_no_set = refl

-- an invoke under the id of one that has not ended: problem 0 of an invoke, duplicateInvocation; one that has ended
-- no longer has its id in use
duplicate : received got 1 (0xA1 ∷ 0x06 ∷ 0x02 ∷ 0x01 ∷ 0x07 ∷ 0x02 ∷ 0x01 ∷ 0x03 ∷ []) ≡ duplicate_invocation (pos 7)
unfolding integer_in integer_contents identifier_octets length_octets identifier_of length_at front_of
duplicate = refl

duplicate_is_rejected : (effect got (entry.Arrived 1 (0xA1 ∷ 0x06 ∷ 0x02 ∷ 0x01 ∷ 0x07 ∷ 0x02 ∷ 0x01 ∷ 0x03 ∷ []))).sent
    ≡ (1, 0x00 ∷ 0x00 ∷ 0x00 ∷ 0x08 ∷ 0xA4 ∷ 0x06 ∷ 0x02 ∷ 0x01 ∷ 0x07 ∷ 0x81 ∷ 0x01 ∷ 0x00 ∷ []) ∷ []
unfolding integer_in integer_contents identifier_octets length_octets identifier_of length_at front_of
duplicate_is_rejected = refl

abbrev ended_then : AgentState
ended_then = record got { operations = record get_of_root { state = operation.Ended 9 } ∷ [] }

no_longer_in_use : is_in_use ended_then 1 (pos 7) ≡ false
no_longer_in_use = refl

not_of_another : is_in_use got 2 (pos 7) ≡ false
not_of_another = refl

-- bytes for an association, in their order
bytes_of_first : bytes_for 1 ((1, 5 ∷ []) ∷ (2, 6 ∷ []) ∷ (1, 7 ∷ []) ∷ []) ≡ 5 ∷ 7 ∷ []
bytes_of_first = refl

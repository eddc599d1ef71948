-- Examples of an object's octets, of the agent's own invoke ids and of frames, computed: X.711, section 7; docs/PROFILE.md,
-- sections 4 and 7.
use Rattle.std.specs.Prelude.{◌≡◌, pos, true, false, List, [], ◌∷◌, length, refl}
use Rattle.term_values.specs.Der.{identifier_octets, length_octets}
use Rattle.term_values.specs.Octets.{integer_contents}
use Rattle.term_values.specs.Oid.{subidentifier}
use Rattle.term_model.specs.declared.reply.Reply.TheVariants as reply
use Rattle.term_model.specs.ObjectOperation.{attribute_octets, is_readable, object_octets, readable, value_octets}
use Rattle.term_model.specs.SentApdus.{sent_reply}
use Rattle.term_model.specs.Operation.{own_after, own_behind, replied}
use Rattle.term_model.proofs.ExampleNetwork.{element, element_oid, id_value, load_oid, load_value, network}

-- managers may read both attributes of an element, and none of a class that the schema lacks
load_readable : is_readable network element_oid load_oid ≡ true
load_readable = refl

other_class : is_readable network (2 ∷ 999 ∷ 3 ∷ 2 ∷ []) load_oid ≡ false
other_class = refl

both_readable : readable network element ≡ id_value ∷ load_value ∷ []
both_readable = refl

-- the value 7 and the attribute that has it: SEQUENCE { [0] 2.999.7.2, INTEGER 7 }
load_octets : value_octets network.attributes load_value ≡ 0x02 ∷ 0x01 ∷ 0x07 ∷ []
unfolding identifier_octets length_octets integer_contents
load_octets = refl

attribute_example : attribute_octets network.attributes load_value
    ≡ 0x30 ∷ 0x09 ∷ 0x80 ∷ 0x04 ∷ 0x88 ∷ 0x37 ∷ 0x07 ∷ 0x02 ∷ 0x02 ∷ 0x01 ∷ 0x07 ∷ []
unfolding subidentifier identifier_octets length_octets integer_contents
attribute_example = refl

-- an element takes 24 octets as SET OF Attribute
object_example : length (object_octets network.attributes element) ≡ 24
unfolding subidentifier identifier_octets length_octets integer_contents
object_example = refl

-- own invoke ids count from 1 and begin anew behind 2,147,483,647; a linked reply takes the next one
own_example : own_after (pos 1) ≡ pos 2
own_example = refl

own_again : own_after (pos 2147483647) ≡ pos 1
own_again = refl

own_of_linked : own_behind (pos 5) (reply.Linked 1 []) ≡ pos 6
own_of_linked = refl

own_of_empty : own_behind (pos 5) reply.Empty ≡ pos 5
own_of_empty = refl

empty_frame : sent_reply (pos 1) (pos 3) (pos 5) reply.Empty ≡ 0 ∷ 0 ∷ 0 ∷ 5 ∷ 0xA2 ∷ 0x03 ∷ 0x02 ∷ 0x01 ∷ 0x01 ∷ []
unfolding sent_reply identifier_octets length_octets integer_contents
empty_frame = refl

-- a linked reply and an empty one in their order
replied_example : replied (pos 1) (pos 3) (pos 5) (reply.Linked 1 [] ∷ reply.Empty ∷ [])
    ≡ record {
      octets =
          0 ∷ 0 ∷ 0 ∷ 13 ∷ 0xA1 ∷ 0x0B ∷ 0x02 ∷ 0x01 ∷ 0x05 ∷ 0x80 ∷ 0x01 ∷ 0x01 ∷ 0x02 ∷ 0x01 ∷ 0x02 ∷ 0xA1 ∷ 0x00 ∷
          0 ∷ 0 ∷ 0 ∷ 5 ∷ 0xA2 ∷ 0x03 ∷ 0x02 ∷ 0x01 ∷ 0x01 ∷ [];
      own = pos 6;
    }
unfolding sent_reply identifier_octets length_octets integer_contents
replied_example = refl

-- Examples of what actions and reports do to one object, computed: X.711, sections 7.3 and 7.4; docs/PROFILE.md, section
-- 15. The object is an element {elementId = 5} with load 7, of which 0 to 9 are permitted; its action reset has an
-- INTEGER as its information and as its reply, its notification trouble an INTEGER.
use Rattle.std.specs.Prelude.{◌≡◌, ◌-◌, ◌^◌, ℕ, pos, true, false, List, [], ◌∷◌, Option, None, Some, Ok, Err, codes}
use Rattle.std.specs.Prelude.{refl, replicate}
use Rattle.term_values.specs.Der.{identifier_octets, length_octets}
use Rattle.term_values.specs.Octets.{integer_contents}
use Rattle.term_values.specs.Oid.{subidentifier}
use Rattle.term_values.specs.ResultSyntaxes.{action_result, plain_result}
use Rattle.term_values.specs.declared.rules.Rules.{Rules}
use Rattle.term_values.specs.Syntaxes.TypeSyntax.{Integer, OctetString}
use Rattle.term_values.specs.Typed.{TypedValue}
use Rattle.term_values.specs.Typed.TypedValue.{Int, Octets}
use Rattle.term_model.specs.declared.actions.ActRec.{ActRec}
use Rattle.term_model.specs.declared.actions.NoteRec.{NoteRec}
use Rattle.term_model.specs.declared.effect.Source.{Source}
use Rattle.term_model.specs.declared.effect.What.{What}
use Rattle.term_model.specs.declared.effect.What.TheVariants as what
use Rattle.term_model.specs.declared.filter_item.Given.{Given}
use Rattle.term_model.specs.declared.name.Rdn.{Rdn}
use Rattle.term_model.specs.declared.object.Object.{Object}
use Rattle.term_model.specs.declared.packages.PackageRec.{PackageRec}
use Rattle.term_model.specs.declared.packages.Property.{Property}
use Rattle.term_model.specs.declared.request.IdRef.TheVariants as ids
use Rattle.term_model.specs.declared.results.FailureReason.TheVariants as reasons
use Rattle.term_model.specs.declared.rule.RuleRec.{RuleRec}
use Rattle.term_model.specs.declared.rule.RuleStep.{RuleStep}
use Rattle.term_model.specs.declared.rule.RuleStep.TheVariants as steps
use Rattle.term_model.specs.declared.schema.AttrRec.{AttrRec}
use Rattle.term_model.specs.declared.schema.ClassRec.{ClassRec}
use Rattle.term_model.specs.declared.schema.Set.{Set}
use Rattle.term_model.specs.CmisErrors as errors
use Rattle.term_model.specs.Replies.{single}
use Rattle.term_model.specs.ResultValues.{action_value, plain_value}
use Rattle.action_model.specs.ActionEffect.{action_effect}
use Rattle.action_model.specs.ActionRules.{lineage, rule_for, steps_for}
use Rattle.action_model.specs.ReportEffect.{report_effect}
use Rattle.action_model.specs.RuleSteps.{object_set, stepped_all, unacted}

abbrev element_oid : List ℕ
element_oid = 2 ∷ 999 ∷ 3 ∷ 1 ∷ []

abbrev id_oid : List ℕ
id_oid = 2 ∷ 999 ∷ 7 ∷ 1 ∷ []

abbrev load_oid : List ℕ
load_oid = 2 ∷ 999 ∷ 7 ∷ 2 ∷ []

abbrev reset_oid : List ℕ
reset_oid = 2 ∷ 999 ∷ 9 ∷ 1 ∷ []

abbrev ping_oid : List ℕ
ping_oid = 2 ∷ 999 ∷ 9 ∷ 2 ∷ []

abbrev trouble_oid : List ℕ
trouble_oid = 2 ∷ 999 ∷ 10 ∷ 1 ∷ []

-- the time 0
abbrev time : List ℕ
time = codes "19700101000000Z"

-- the octets of an INTEGER of one octet
abbrev number : ℕ → List ℕ
number n = 2 ∷ 1 ∷ n ∷ []

abbrev ordered : Rules
ordered = record { equality = true; ordering = true; substrings = false; comparison = false; intersection = false }

abbrev attribute_of_number : List ℕ → List ℕ → AttrRec
attribute_of_number id label = record { id = id; label = label; syntax = Integer [] []; rules = ordered }

abbrev property_of_number : List ℕ → Property
property_of_number id = record {
  attribute = id;
  get = true;
  replace = false;
  add = false;
  remove = false;
  set_to_default = false;
  default = None;
  initial = None;
  permitted = [];
  required = [];
}

abbrev load_property : Property
load_property = record (property_of_number load_oid) { permitted = Integer [] ((pos 0, pos 9) ∷ []) ∷ [] }

-- a package with the two attributes, the action reset and the notification trouble; one with the action ping, which an
-- object has where its creation named it
abbrev element_package : PackageRec
element_package = record {
  id = None;
  label = codes "elementPackage";
  attributes = property_of_number id_oid ∷ load_property ∷ [];
  groups = [];
  actions = reset_oid ∷ [];
  notifications = trouble_oid ∷ [];
}

abbrev ping_package : PackageRec
ping_package = record {
  id = Some (2 ∷ 999 ∷ 4 ∷ 1 ∷ []);
  label = codes "pingPackage";
  attributes = [];
  groups = [];
  actions = ping_oid ∷ [];
  notifications = [];
}

abbrev element_class : ClassRec
element_class = record {
  id = element_oid;
  label = codes "element";
  superclasses = [];
  mandatory = element_package ∷ [];
  conditional = ping_package ∷ [];
  properties = property_of_number id_oid ∷ load_property ∷ [];
}

abbrev reset : ActRec
reset = record {
  id = reset_oid;
  label = codes "reset";
  confirmed = true;
  information = Some (Integer [] []);
  reply = Some (Integer [] []);
}

-- without information and reply
abbrev ping : ActRec
ping = record { id = ping_oid; label = codes "ping"; confirmed = true; information = None; reply = None }

abbrev trouble : NoteRec
trouble = record {
  id = trouble_oid;
  label = codes "trouble";
  information = Some (Integer [] []);
  fields = [];
  reply = None;
}

abbrev rule_of : List ℕ → List RuleStep → RuleRec
rule_of class steps = record { class = class; action = reset_oid; steps = steps }

-- the network, in which reset follows this rule
abbrev network : List RuleStep → Set
network steps = record {
  classes = element_class ∷ [];
  attributes = attribute_of_number id_oid (codes "elementId") ∷ attribute_of_number load_oid (codes "load") ∷ [];
  groups = [];
  bindings = [];
  actions = reset ∷ ping ∷ [];
  notifications = trouble ∷ [];
  rules = rule_of element_oid steps ∷ [];
  instances = [];
  system = record { attribute = id_oid; value = number 1 } ∷ [];
}

abbrev five : List Rdn
five = record { attribute = id_oid; value = number 5 } ∷ []

abbrev load_is : ℕ → Object
load_is n = record {
  class = element_oid;
  binding = Some (2 ∷ 999 ∷ 6 ∷ 1 ∷ []);
  chosen = [];
  attrs = record { id = id_oid; value = Int (pos 5) } ∷ record { id = load_oid; value = Int (pos n) } ∷ [];
}

-- the argument n, or one that is no value of the syntax
abbrev argument : ℕ → Option Given
argument n = Some (record { id = ids.Global reset_oid; value = Some (Int (pos n)); raw = number n })

abbrev misfit : Option Given
misfit = Some (record { id = ids.Global reset_oid; value = None; raw = 5 ∷ 0 ∷ [] })

abbrev happened : What → Source
happened what = record { name = five; class = element_oid; what = what }

abbrev load_became : ℕ → ℕ → Source
load_became old new =
    happened (what.Differs (record { attribute = load_oid; old = number old; new = number new } ∷ []))

-- ---- steps

-- SET load TO ARGUMENT, ADD 2 TO load, EMIT trouble 4, REPLY load, ADD 1 TO load, EMIT trouble: the reply has the value
-- at its step, and what differs comes before what was emitted
abbrev all_kinds : List RuleStep
all_kinds =
    steps.SetArgument load_oid ∷ steps.Add 2 load_oid ∷ steps.Emit trouble_oid (Some (Int (pos 4)))
    ∷ steps.ReplyAttribute load_oid ∷ steps.Add 1 load_oid ∷ steps.Emit trouble_oid None ∷ []

all_steps : action_effect (network all_kinds) five (load_is 7) (ids.Global reset_oid) (argument 3) time ≡ Ok (record {
  changes = (five, Some (load_is 6)) ∷ [];
  reply = single action_result
      (action_value element_oid five time (Some (record { action = reset_oid; info = number 5 })));
  sources = load_became 7 6 ∷ happened (what.Emitted trouble_oid (Some (number 4)))
      ∷ happened (what.Emitted trouble_oid None) ∷ [];
})
unfolding subidentifier identifier_octets length_octets integer_contents
all_steps = refl

-- REPLY ARGUMENT, then REPLY 9: the last one is the reply. SET load TO 7 leaves the value that was there: nothing differs.
abbrev two_replies : List RuleStep
two_replies = steps.ReplyArgument ∷ steps.SetValue load_oid (Int (pos 7)) ∷ steps.ReplyValue (Int (pos 9)) ∷ []

last_reply : action_effect (network two_replies) five (load_is 7) (ids.Global reset_oid) (argument 3) time
    ≡ Ok (record {
      changes = [];
      reply = single action_result
          (action_value element_oid five time (Some (record { action = reset_oid; info = number 9 })));
      sources = [];
    })
unfolding subidentifier identifier_octets length_octets integer_contents
last_reply = refl

-- without a reply [6] isn't there; an attribute by which objects are named, and that has no REPLACE, can be set
abbrev silent : List RuleStep
silent = steps.Add 1 id_oid ∷ []

no_reply : action_effect (network silent) five (load_is 7) (ids.Global reset_oid) (argument 3) time ≡ Ok (record {
  changes = (
    five,
    Some (record (load_is 7) {
      attrs = record { id = id_oid; value = Int (pos 6) } ∷ record { id = load_oid; value = Int (pos 7) } ∷ [];
    }),
  ) ∷ [];
  reply = single action_result (action_value element_oid five time None);
  sources = happened (what.Differs (record { attribute = id_oid; old = number 5; new = number 6 } ∷ [])) ∷ [];
})
unfolding subidentifier identifier_octets length_octets integer_contents
no_reply = refl

-- ---- steps that fail: processingFailure with reason rule, with the object's own class and its local name

abbrev five_octets : List ℕ
five_octets =
    0xA4 ∷ 0x0D ∷ 0x31 ∷ 0x0B ∷ 0x30 ∷ 0x09 ∷ 0x06 ∷ 0x04 ∷ 0x88 ∷ 0x37 ∷ 0x07 ∷ 0x01 ∷ 0x02 ∷ 0x01 ∷ 0x05 ∷ []

-- 10 isn't permitted, though the next step would set the load to 1
abbrev too_high : List RuleStep
too_high = steps.SetValue load_oid (Int (pos 10)) ∷ steps.SetValue load_oid (Int (pos 1)) ∷ []

not_permitted : action_effect (network too_high) five (load_is 7) (ids.Global reset_oid) (argument 3) time
    ≡ Err (errors.processing_failure (ids.Global element_oid) five_octets reasons.Rule)
unfolding subidentifier identifier_octets length_octets integer_contents
not_permitted = refl

-- elementId 5 and 2^63 - 6 make 2^63 - 1, the greatest number of 64 bits; one more is past it
greatest_sum : action_effect (network (steps.Add (2 ^ 63 - 6) id_oid ∷ steps.ReplyAttribute id_oid ∷ [])) five (load_is 7)
    (ids.Global reset_oid) (argument 3) time ≡ Ok (record {
      changes = (
        five,
        Some (record (load_is 7) {
          attrs = record { id = id_oid; value = Int (pos (2 ^ 63 - 1)) }
              ∷ record { id = load_oid; value = Int (pos 7) } ∷ [];
        }),
      ) ∷ [];
      reply = single action_result (action_value element_oid five time (Some (record {
        action = reset_oid;
        info = 2 ∷ 8 ∷ 0x7F ∷ 0xFF ∷ 0xFF ∷ 0xFF ∷ 0xFF ∷ 0xFF ∷ 0xFF ∷ 0xFF ∷ [];
      })));
      sources = happened (what.Differs (record {
        attribute = id_oid;
        old = number 5;
        new = 2 ∷ 8 ∷ 0x7F ∷ 0xFF ∷ 0xFF ∷ 0xFF ∷ 0xFF ∷ 0xFF ∷ 0xFF ∷ 0xFF ∷ [];
      } ∷ [])) ∷ [];
    })
unfolding subidentifier identifier_octets length_octets integer_contents
greatest_sum = refl

past_64_bits : action_effect (network (steps.Add (2 ^ 63 - 5) id_oid ∷ [])) five (load_is 7) (ids.Global reset_oid)
    (argument 3) time ≡ Err (errors.processing_failure (ids.Global element_oid) five_octets reasons.Rule)
unfolding subidentifier identifier_octets length_octets integer_contents
past_64_bits = refl

-- ---- sizes: text and note are strings of octets

abbrev text_oid : List ℕ
text_oid = 2 ∷ 999 ∷ 7 ∷ 3 ∷ []

abbrev note_oid : List ℕ
note_oid = 2 ∷ 999 ∷ 7 ∷ 4 ∷ []

abbrev attribute_of_octets : List ℕ → List ℕ → AttrRec
attribute_of_octets id label = record { id = id; label = label; syntax = OctetString []; rules = ordered }

abbrev strings : List RuleStep → Set
strings steps = record (network steps) {
  classes = record element_class {
    properties = property_of_number text_oid ∷ property_of_number note_oid ∷ [];
  } ∷ [];
  attributes = attribute_of_octets text_oid (codes "text") ∷ attribute_of_octets note_oid (codes "note") ∷ [];
}

abbrev octets : ℕ → TypedValue
octets count = Octets (replicate count 0)

abbrev holding : ℕ → ℕ → Object
holding text note = record (load_is 7) {
  attrs = record { id = text_oid; value = octets text } ∷ record { id = note_oid; value = octets note } ∷ [];
}

-- a string of 8,188 octets takes 8,192, the most that a value may; one octet more is too long
setting_longest : object_set (strings []) (holding 1 1) text_oid (octets 8188) ≡ Some (holding 8188 1)
unfolding subidentifier identifier_octets length_octets
setting_longest = refl

setting_too_long : object_set (strings []) (holding 1 1) text_oid (octets 8189) ≡ None
unfolding subidentifier identifier_octets length_octets
setting_too_long = refl

-- the object has at most 16,384 octets: 4 in front of two attributes of 10 octets each beside their values
setting_fullest : object_set (strings []) (holding 8188 1) note_oid (octets 8164) ≡ Some (holding 8188 8164)
unfolding subidentifier identifier_octets length_octets
setting_fullest = refl

setting_too_much : object_set (strings []) (holding 8188 1) note_oid (octets 8165) ≡ None
unfolding subidentifier identifier_octets length_octets
setting_too_much = refl

-- each step is tried by itself: the object is past its size before the last step would make it shorter
abbrev long_between : List RuleStep
long_between =
    steps.SetValue text_oid (octets 8188) ∷ steps.SetValue note_oid (octets 8188) ∷ steps.SetValue text_oid (octets 1) ∷ []

past_object : stepped_all (strings []) reset None (unacted (holding 1 1)) long_between ≡ None
unfolding subidentifier identifier_octets length_octets
past_object = refl

-- ---- errors of the request, each with the next one's cause beside it

-- 9: a number of the manager's own, an action that no document defines, one that the object hasn't
local_action : action_effect (network []) five (load_is 7) (ids.Local (pos 4)) None time
    ≡ Err (errors.no_such_action (ids.Local (pos 4)))
unfolding subidentifier identifier_octets length_octets integer_contents
local_action = refl

unknown_action : action_effect (network []) five (load_is 7) (ids.Global (2 ∷ 999 ∷ 9 ∷ 9 ∷ [])) None time
    ≡ Err (errors.no_such_action (ids.Global (2 ∷ 999 ∷ 9 ∷ 9 ∷ [])))
unfolding subidentifier identifier_octets length_octets integer_contents
unknown_action = refl

absent_action : action_effect (network []) five (load_is 7) (ids.Global ping_oid) (argument 3) time
    ≡ Err (errors.no_such_action (ids.Global ping_oid))
unfolding subidentifier identifier_octets length_octets integer_contents
absent_action = refl

-- 14: an argument where there is no syntax, whether or not it would fit
abbrev with_ping : Object
with_ping = record (load_is 7) { chosen = (2 ∷ 999 ∷ 4 ∷ 1 ∷ []) ∷ [] }

no_argument_wanted : action_effect (network []) five with_ping (ids.Global ping_oid) misfit time
    ≡ Err (errors.no_such_action_argument (ids.Global ping_oid))
unfolding subidentifier identifier_octets length_octets integer_contents
no_argument_wanted = refl

-- without an argument, and without a rule, it changes nothing
no_rule : action_effect (network all_kinds) five with_ping (ids.Global ping_oid) None time ≡ Ok (record {
  changes = [];
  reply = single action_result (action_value element_oid five time None);
  sources = [];
})
unfolding subidentifier identifier_octets length_octets integer_contents
no_rule = refl

-- 15: none, or one that doesn't fit, though the rule would fail
missing_argument : action_effect (network too_high) five (load_is 7) (ids.Global reset_oid) None time
    ≡ Err (errors.invalid_action_argument (ids.Global reset_oid))
unfolding subidentifier identifier_octets length_octets integer_contents
missing_argument = refl

unfit_argument : action_effect (network too_high) five (load_is 7) (ids.Global reset_oid) misfit time
    ≡ Err (errors.invalid_action_argument (ids.Global reset_oid))
unfolding subidentifier identifier_octets length_octets integer_contents
unfit_argument = refl

-- ---- whose rule it is: bottom derives from left and right, left from far. Far and right have one: far's holds.

abbrev bottom_oid : List ℕ
bottom_oid = 2 ∷ 999 ∷ 3 ∷ 11 ∷ []

abbrev left_oid : List ℕ
left_oid = 2 ∷ 999 ∷ 3 ∷ 12 ∷ []

abbrev right_oid : List ℕ
right_oid = 2 ∷ 999 ∷ 3 ∷ 13 ∷ []

abbrev far_oid : List ℕ
far_oid = 2 ∷ 999 ∷ 3 ∷ 14 ∷ []

abbrev class_below : List ℕ → List (List ℕ) → ClassRec
class_below id above = record element_class { id = id; superclasses = above }

abbrev family : List RuleRec → Set
family rules = record (network []) {
  classes = class_below right_oid [] ∷ class_below far_oid [] ∷ class_below left_oid (far_oid ∷ [])
      ∷ class_below bottom_oid (left_oid ∷ right_oid ∷ []) ∷ [];
  rules = rules;
}

depth_before_breadth : lineage (family []).classes bottom_oid ≡ bottom_oid ∷ left_oid ∷ far_oid ∷ right_oid ∷ []
depth_before_breadth = refl

abbrev of_right : RuleRec
of_right = rule_of right_oid (steps.Add 1 load_oid ∷ [])

abbrev of_far : RuleRec
of_far = rule_of far_oid (steps.Add 2 load_oid ∷ [])

far_before_right : rule_for (family (of_right ∷ of_far ∷ [])) bottom_oid reset_oid ≡ Some of_far
far_before_right = refl

-- a class's own rule comes first, and one for another action isn't looked at
own_first : rule_for (family (of_far ∷ record of_right { class = bottom_oid } ∷ [])) bottom_oid reset_oid
    ≡ Some (record of_right { class = bottom_oid })
own_first = refl

other_action : rule_for (family (record of_far { action = ping_oid } ∷ of_right ∷ [])) bottom_oid reset_oid
    ≡ Some of_right
other_action = refl

no_rule_above : steps_for (family (record of_right { class = bottom_oid } ∷ [])) left_oid reset_oid ≡ []
no_rule_above = refl

-- ---- reports

abbrev information : ℕ → Option Given
information n = Some (record { id = ids.Global trouble_oid; value = Some (Int (pos n)); raw = number n })

-- the event 2.999.10.1 of object 5 with the information 3, without a time
reported_trouble : report_effect (network []) five (load_is 7) (ids.Global trouble_oid) None (information 3) time
    ≡ Ok (record {
      changes = [];
      reply = single plain_result (plain_value element_oid five time);
      sources = happened (what.Reported trouble_oid None (Some (number 3))) ∷ [];
    })
unfolding subidentifier identifier_octets length_octets integer_contents
reported_trouble = refl

-- with a time, which goes on as it was spelled, while the reply has the moment of the grant
abbrev spelled : List ℕ
spelled = codes "19700101000000.5Z"

reported_with_time : report_effect (network []) five (load_is 7) (ids.Global trouble_oid) (Some spelled)
    (information 3) time ≡ Ok (record {
      changes = [];
      reply = single plain_result (plain_value element_oid five time);
      sources = happened (what.Reported trouble_oid (Some spelled) (Some (number 3))) ∷ [];
    })
unfolding subidentifier identifier_octets length_octets integer_contents
reported_with_time = refl

-- 13: local, unknown; 15: missing, or not fitting
local_event : report_effect (network []) five (load_is 7) (ids.Local (pos 4)) None None time
    ≡ Err (errors.no_such_event_type (ids.Local (pos 4)))
unfolding subidentifier identifier_octets length_octets integer_contents
local_event = refl

unknown_event : report_effect (network []) five (load_is 7) (ids.Global reset_oid) None None time
    ≡ Err (errors.no_such_event_type (ids.Global reset_oid))
unfolding subidentifier identifier_octets length_octets integer_contents
unknown_event = refl

missing_information : report_effect (network []) five (load_is 7) (ids.Global trouble_oid) None None time
    ≡ Err (errors.invalid_event_argument (ids.Global trouble_oid))
unfolding subidentifier identifier_octets length_octets integer_contents
missing_information = refl

unfit_information : report_effect (network []) five (load_is 7) (ids.Global trouble_oid) None misfit time
    ≡ Err (errors.invalid_event_argument (ids.Global trouble_oid))
unfolding subidentifier identifier_octets length_octets integer_contents
unfit_information = refl

-- 14: information where the notification has no syntax
abbrev plain_network : Set
plain_network = record (network []) { notifications = record trouble { information = None } ∷ [] }

no_information_wanted : report_effect plain_network five (load_is 7) (ids.Global trouble_oid) None misfit time
    ≡ Err (errors.no_such_event_argument (ids.Global trouble_oid))
unfolding subidentifier identifier_octets length_octets integer_contents
no_information_wanted = refl

plain_event : report_effect plain_network five (load_is 7) (ids.Global trouble_oid) None None time ≡ Ok (record {
  changes = [];
  reply = single plain_result (plain_value element_oid five time);
  sources = happened (what.Reported trouble_oid None None) ∷ [];
})
unfolding subidentifier identifier_octets length_octets integer_contents
plain_event = refl

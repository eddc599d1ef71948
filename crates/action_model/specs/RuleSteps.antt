-- What the steps of a rule do, one after another: docs/PROFILE.md, section 15. Each acts on what those before it left,
-- and is tried by itself; where one fails, the action fails.
use Rattle.std.specs.Prelude.{ℕ, pos, ◌+ℤ◌, List, [], ◌∷◌, ◌++◌, Option, None, Some, is_some, option_and_then}
use Rattle.std.specs.Prelude.{if◌then◌else◌}
use Rattle.std.specs.Option.{option_map}
use Rattle.term_values.specs.LeafTests.{is_whole}
use Rattle.term_values.specs.Syntaxes.{TypeSyntax}
use Rattle.term_values.specs.Typed.{TypedValue}
use Rattle.term_values.specs.Typed.TypedValue.{Int}
use Rattle.term_model.specs.declared.actions.ActRec.{ActRec}
use Rattle.term_model.specs.declared.actions.NoteRec.{NoteRec}
use Rattle.term_model.specs.declared.effect.What.{What}
use Rattle.term_model.specs.declared.effect.What.TheVariants as what
use Rattle.term_model.specs.declared.object.Attribute.{Attribute}
use Rattle.term_model.specs.declared.object.Object.{Object}
use Rattle.term_model.specs.declared.packages.Property.{Property}
use Rattle.term_model.specs.declared.rule.RuleStep.{RuleStep}
use Rattle.term_model.specs.declared.rule.RuleStep.TheVariants as steps
use Rattle.term_model.specs.declared.schema.Set.{Set}
use Rattle.term_model.specs.ClassAttributes.{property_of, syntax_of}
use Rattle.term_model.specs.Modifications.{attribute_of, may_have, with_value}
use Rattle.action_model.specs.Arguments.{written_in}
use Rattle.action_model.specs.OfferedTypes.{notification_record}

-- what steps have made so far: the object, the notifications that were emitted, in their order, and the last reply in
-- its written encoding
pub record Acted : Type 0 where
  pub object : Object
  pub emitted : List What
  pub reply : Option (List ℕ)

-- before the first step
abbrev pub unacted : Object → Acted
unacted object = record { object = object; emitted = []; reply = None }

-- the object with another value of the attribute, which may have it. What a Set may leave an attribute may have here
-- too: a value that fits, is permitted and has at most 8 KiB, in an object of at most 16 KiB; and setting maxLogSize or
-- logFullAction takes logFull away from a log.
abbrev pub object_with : Set → Object → List ℕ → TypedValue → TypeSyntax → Property → Option Object
object_with schema object id value syntax property =
    if may_have schema object syntax property id value
    then Some (record object { attrs = with_value schema object id value }) else None

-- whichever attribute it is, also one that the agent fills; the object must have it
abbrev pub object_set : Set → Object → List ℕ → TypedValue → Option Object
object_set schema object id value =
    if is_some (attribute_of object.attrs id)
    then option_and_then
    (λ syntax. option_and_then (object_with schema object id value syntax) (property_of schema object.class id))
    (syntax_of schema.attributes id)
    else None

-- SET
abbrev pub setting : Set → Acted → List ℕ → TypedValue → Option Acted
setting schema made id value =
    option_map (λ object. record made { object = object }) (object_set schema made.object id value)

-- the sum of a number and a whole number, where it has 64 bits
abbrev pub sum_with : ℕ → TypedValue → Option TypedValue
sum_with number (Int held) = if is_whole (held +ℤ pos number) then Some (Int (held +ℤ pos number)) else None
sum_with number _ = None

-- ADD
abbrev pub adding : Set → Acted → ℕ → List ℕ → Option Acted
adding schema made number id =
    option_and_then
    (λ (held : Attribute). option_and_then (setting schema made id) (sum_with number held.value))
    (attribute_of made.object.attrs id)

-- EMIT, with the information in its written encoding
abbrev pub information_octets : List NoteRec → List ℕ → TypedValue → List ℕ
information_octets records id value =
    written_in (option_and_then (λ (of_notification : NoteRec). of_notification.information)
    (notification_record records id)) value

abbrev pub emitting : List NoteRec → Acted → List ℕ → Option TypedValue → Acted
emitting records made id information =
    record made {
      emitted = made.emitted ++ what.Emitted id (option_map (information_octets records id) information) ∷ [];
    }

-- REPLY, in the syntax of the action's reply; a later one takes the place of an earlier one
abbrev pub replying : ActRec → Acted → TypedValue → Acted
replying action made value = record made { reply = Some (written_in action.reply value) }

-- one step of the rule of an action, with the value of its argument where one came; None where it fails
abbrev pub stepped : Set → ActRec → Option TypedValue → Acted → RuleStep → Option Acted
stepped schema action argument made (steps.SetArgument id) = option_and_then (setting schema made id) argument
stepped schema action argument made (steps.SetValue id value) = setting schema made id value
stepped schema action argument made (steps.Add number id) = adding schema made number id
stepped schema action argument made (steps.Emit id information) =
    Some (emitting schema.notifications made id information)
stepped schema action argument made steps.ReplyArgument = option_map (replying action made) argument
stepped schema action argument made (steps.ReplyAttribute id) =
    option_map (λ (held : Attribute). replying action made held.value) (attribute_of made.object.attrs id)
stepped schema action argument made (steps.ReplyValue value) = Some (replying action made value)

-- all steps in their order
abbrev pub stepped_all : Set → ActRec → Option TypedValue → Acted → List RuleStep → Option Acted
stepped_all schema action argument made [] = Some made
stepped_all schema action argument made (step ∷ steps) =
    option_and_then (λ next. stepped_all schema action argument next steps) (stepped schema action argument made step)

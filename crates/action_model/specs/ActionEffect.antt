-- What an m-Action does to one object: X.711, section 7.4, m-Action; docs/PROFILE.md, section 15.
use Rattle.std.specs.Prelude.{ℕ, List, ◌++◌, Option, None, Some, Result, Ok, Err, map}
use Rattle.std.specs.Option.{option_map}
use Rattle.term_values.specs.ResultSyntaxes.{action_result}
use Rattle.term_values.specs.Typed.{TypedValue}
use Rattle.term_model.specs.declared.actions.ActRec.{ActRec}
use Rattle.term_model.specs.declared.effect.Effect.{Effect}
use Rattle.term_model.specs.declared.effect.Source.{Source}
use Rattle.term_model.specs.declared.effect.What.{What}
use Rattle.term_model.specs.declared.filter_item.Given.{Given}
use Rattle.term_model.specs.declared.name.Rdn.{Rdn}
use Rattle.term_model.specs.declared.object.Object.{Object}
use Rattle.term_model.specs.declared.reply.CmisError.{CmisError}
use Rattle.term_model.specs.declared.reply.Reply.{Reply}
use Rattle.term_model.specs.declared.results.ActionReply.{ActionReply}
use Rattle.term_model.specs.declared.request.IdRef.{IdRef}
use Rattle.term_model.specs.declared.request.IdRef.TheVariants as ids
use Rattle.term_model.specs.declared.results.FailureReason.TheVariants as reasons
use Rattle.term_model.specs.declared.schema.Set.{Set}
use Rattle.term_model.specs.CmisErrors.{invalid_action_argument, no_such_action, no_such_action_argument}
use Rattle.term_model.specs.CmisErrors.{processing_failure}
use Rattle.term_model.specs.GetRequest.{instance_octets}
use Rattle.term_model.specs.ObjectSet.{left_by}
use Rattle.term_model.specs.Replies.{single}
use Rattle.term_model.specs.ResultValues.{action_value}
use Rattle.action_model.specs.ActionRules.{steps_for}
use Rattle.action_model.specs.Arguments.{argument_of}
use Rattle.action_model.specs.OfferedTypes.{action_named}
use Rattle.action_model.specs.RuleSteps.{Acted, stepped_all, unacted}

-- what the action replied, where a step did
abbrev pub replied : ActRec → Option (List ℕ) → Option ActionReply
replied action info = option_map (λ octets. record { action = action.id; info = octets }) info

-- the ActionResult
abbrev pub action_reply : List ℕ → List Rdn → List ℕ → ActRec → Option (List ℕ) → Reply
action_reply class name time action info =
    single action_result (action_value class name time (replied action info))

-- what the object emitted
abbrev pub emitted_by : List Rdn → List ℕ → What → Source
emitted_by name class emitted = record { name = name; class = class; what = emitted }

-- what steps leave: the object, where an attribute has another value than before, the result, and as sources the
-- attributes that differ, then what was emitted
abbrev pub with_emitted : Effect → List Source → Effect
with_emitted effect emitted = record effect { sources = effect.sources ++ emitted }

abbrev pub acted_effect : Set → List Rdn → Object → ActRec → Acted → List ℕ → Effect
acted_effect schema name before action made time =
    with_emitted
    (left_by schema name before made.object (action_reply before.class name time action made.reply))
    (map (emitted_by name before.class) made.emitted)

-- processingFailure with reason rule, where a step failed: the object's own class and its local name
abbrev pub rule_failure : List ℕ → List Rdn → CmisError
rule_failure class name = processing_failure (ids.Global class) (instance_octets name) reasons.Rule

abbrev pub concluded : Set → List Rdn → Object → ActRec → List ℕ → Option Acted → Result Effect CmisError
concluded schema name before action time (Some made) = Ok (acted_effect schema name before action made time)
concluded schema name before action time None = Err (rule_failure before.class name)

-- the rule of the action with an argument that may come
abbrev pub by_argument : Set → List Rdn → Object → ActRec → List ℕ → Result (Option TypedValue) CmisError
    → Result Effect CmisError
by_argument schema name object action time (Err error) = Err error
by_argument schema name object action time (Ok argument) =
    concluded schema name object action time
    (stepped_all schema action argument (unacted object) (steps_for schema object.class action.id))

-- noSuchAction 9, then noSuchArgument 14, then invalidArgumentValue 15, each with the action as the request named it
abbrev pub by_action : Set → List Rdn → Object → IdRef → Option Given → List ℕ → Option ActRec → Result Effect CmisError
by_action schema name object asked came time None = Err (no_such_action asked)
by_action schema name object asked came time (Some action) =
    by_argument schema name object action time
    (argument_of action.information came (no_such_action_argument asked) (invalid_action_argument asked))

-- the action of an object, granted at the moment that this text tells
abbrev pub action_effect : Set → List Rdn → Object → IdRef → Option Given → List ℕ → Result Effect CmisError
action_effect schema name object asked came time =
    by_action schema name object asked came time (action_named schema object asked)

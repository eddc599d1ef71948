-- The plan of an operation beside the objects that it selected: docs/PROFILE.md, section 17.
use Rattle.std.specs.Prelude.{[], ◌∷◌, nat_le, ℕ, if◌then◌else◌}
use Rattle.op_engine.specs.declared.acting.Acting.{Acting}
use Rattle.op_engine.specs.declared.outcome.Plan.{Plan}
use Rattle.term_model.specs.declared.reply.CmisError.{CmisError}
use Rattle.term_model.specs.declared.reply.Reply.TheVariants as reply
use Rattle.term_model.specs.declared.scope.Scope.{Scope}
use Rattle.term_model.specs.CmisErrors.{complexity_limitation}
use Rattle.operation_model.specs.LinkedReplies.{replies_size}
use Rattle.operation_model.specs.WholeOperation.{replies_to}

-- an error alone, with nothing changed
abbrev pub refused_plan : CmisError → Plan
refused_plan error = record { changes = []; replies = reply.Error error ∷ []; sources = [] }

-- no reply, with nothing changed
abbrev pub empty_plan : Plan
empty_plan = record { changes = []; replies = []; sources = [] }

abbrev pub plan_within : Plan → Plan
plan_within plan =
    if nat_le (replies_size plan.replies) 4194304 then plan else refused_plan complexity_limitation

abbrev pub plan_of : Scope → ℕ → Acting → Plan
plan_of scope number made = plan_within (record {
  changes = made.changes;
  replies = replies_to scope number made.replies;
  sources = made.sources;
})

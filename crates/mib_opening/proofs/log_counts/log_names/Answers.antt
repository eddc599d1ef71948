use Rattle.std.proofs.Common.{◌≡◌, ◌∷◌, ◌++◌, ◌∙◌, [], None, Some, arith, rules}
use Rattle.std.proofs.lemmas.Grind.{common_steps}
use Rattle.term_model.specs.NamedObjects.{object_at}
use Rattle.mib_opening.specs.LogOrder.{log_names}
use Rattle.mib_opening.specs.Walks.{behind}
use Rattle.mib_opening.proofs.LogLaws.{all_with_root, all_without_root}
use Rattle.mib_opening.proofs.log_counts.log_names.Goals as goal
use Rattle.mib_opening.proofs.log_counts.log_names.Goals.{in-Some+in_ok-add_log, in_default}

pub returns-clause-names : goal.returns-clause-names
returns-clause-names g c =
    let objects = g.M.Ranged.objects c.args.mib.now in
    let schema = c.args.schema.now in
    let all : c.add_logs.new.logs ≡ c.match-at.logs ++ log_names schema (behind [] objects) =
    first_of (search rules, grind (arith, common_steps, c.in_ok-add_logs.ensures, c.root-root.ensures)) in
    elim c.match-at.branch [
      | in-Some+in_ok-add_log w ↦
          (let object = w.in-Some.object.now in
          let found : object_at objects [] ≡ Some object =
          first_of (search rules, grind (arith, common_steps, c.at.ensures.found, c.root-root.ensures)) in
          let added : c.match-at.logs ≡ log_names schema (record { name = []; object = object } ∷ []) =
          first_of (search rules, grind (arith, common_steps, w.in_ok-add_log.ensures, c.root-root.ensures)) in
          all ∙ all_with_root schema object objects c.match-at.logs c.at.ensures.rising found added)
      | in_default w ↦
          (let none : object_at objects [] ≡ None =
          first_of (search rules, grind (arith, common_steps, c.at.ensures.found, c.root-root.ensures)) in
          let empty : c.match-at.logs ≡ [] =
          first_of (search rules, grind (arith, common_steps, c.new.ensures.items)) in
          all ∙ all_without_root schema objects c.match-at.logs c.at.ensures.rising none empty)
    ]

-- Where the name is defined, and something begins with it.
use Rattle.std.proofs.Common.{◌∙◌, subst, sym}
use Rattle.gdmo_first_names.specs.DefinedNames.{TellsDefined}
use Rattle.first_name_arcs.proofs.BegunLaws.{marked_told, undefined_told, unmarked_told}
use Rattle.first_name_arcs.proofs.unequal_names.begun_first.Goals as goal

pub returns-then-is_begun : goal.returns-then-is_begun
returns-then-is_begun c = λ parts are begun.
    marked_told parts c.args.name.now c.in-Some.number c.args.begun.now begun
    (subst (TellsDefined parts c.args.name.now) (sym c.definer.ensures ∙ c.in-Some.is) (are c.args.name.now))
    (sym c.is_begun.ensures ∙ c.if-is_begun.true)

pub returns-else-is_begun : goal.returns-else-is_begun
returns-else-is_begun c = λ parts are begun.
    unmarked_told parts c.args.name.now c.in-Some.number c.args.begun.now begun
    (subst (TellsDefined parts c.args.name.now) (sym c.definer.ensures ∙ c.in-Some.is) (are c.args.name.now))
    (sym c.is_begun.ensures ∙ c.if-is_begun.false)

pub returns-in-None : goal.returns-in-None
returns-in-None c = λ parts are begun. undefined_told parts c.args.name.now
    (subst (TellsDefined parts c.args.name.now) (sym c.definer.ensures ∙ c.in-None.is) (are c.args.name.now))

-- What is left is as its text says, or a type of CMIP-1, or nothing.
use Rattle.gdmo_first_names.proofs.IdentifierLaws.{nothing_is, standing_is, written_is}
use Rattle.gdmo_first_names.proofs.identifier_types.is_identifier_base.Goals as goal

pub returns-in-Written : goal.returns-in-Written
returns-in-Written c = written_is c.args.base.now _ _ _ _ c.in-Written.is c.is_identifier_text.ensures

pub returns-in-Standing : goal.returns-in-Standing
returns-in-Standing c = standing_is c.args.base.now _ c.in-Standing.is

pub returns-in-Nothing : goal.returns-in-Nothing
returns-in-Nothing c = nothing_is c.args.base.now c.in-Nothing.is

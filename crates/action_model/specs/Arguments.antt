-- The argument of an action and the information of an event: X.711, section 7.5, noSuchArgument and
-- invalidArgumentValue; X.722, sections 8.10 and 8.11, WITH INFORMATION SYNTAX.
use Rattle.std.specs.Prelude.{ℕ, List, [], Option, None, Some, Result, Ok, Err, option_and_then}
use Rattle.std.specs.Option.{option_map_or}
use Rattle.term_values.specs.Syntaxes.{TypeSyntax}
use Rattle.term_values.specs.Typed.{TypedValue}
use Rattle.term_values.specs.Written.{der}
use Rattle.term_model.specs.declared.filter_item.Given.{Given}
use Rattle.term_model.specs.declared.reply.CmisError.{CmisError}

-- the value that came, where one came and is one of the syntax
abbrev pub value_given : Option Given → Option TypedValue
value_given came = option_and_then (λ (given : Given). given.value) came

-- a value, or the second error where there is none
abbrev pub required : Option TypedValue → CmisError → Result (Option TypedValue) CmisError
required (Some value) invalid = Ok (Some value)
required None invalid = Err invalid

-- the value that came, by the syntax that it is to have: none is to come where there is no syntax (noSuchArgument,
-- the first error), else one that fits (invalidArgumentValue, the second one)
abbrev pub argument_of : Option TypeSyntax → Option Given → CmisError → CmisError → Result (Option TypedValue) CmisError
argument_of None None no_such invalid = Ok None
argument_of None (Some given) no_such invalid = Err no_such
argument_of (Some syntax) came no_such invalid = required (value_given came) invalid

-- the written encoding of a value in the syntax that it has
abbrev pub written_in : Option TypeSyntax → TypedValue → List ℕ
written_in syntax value = option_map_or (λ syntax. der syntax value) syntax []

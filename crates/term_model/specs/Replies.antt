-- Results, linked replies and errors, written by the one form of their values: X.711, section 7.5; X.690, section 10;
-- docs/PROFILE.md, section 4.
use Rattle.std.specs.Prelude.{ℕ, pos, List, [], Some}
use Rattle.std.specs.Option.{option_map}
use Rattle.term_values.specs.Rearranged.{joined}
use Rattle.term_values.specs.ResultSyntaxes.{error_parameter}
use Rattle.term_values.specs.Syntaxes.{TypeSyntax}
use Rattle.term_values.specs.Syntaxes.TypeSyntax.{Sequence}
use Rattle.term_values.specs.Typed.{TypedValue}
use Rattle.term_values.specs.ValueContents.{of_parts}
use Rattle.term_values.specs.Written.{der, part_encodings}
use Rattle.term_model.specs.declared.reply.CmisError.{CmisError}
use Rattle.term_model.specs.declared.reply.Reply.{Reply}
use Rattle.term_model.specs.declared.reply.Reply.TheVariants as reply

-- the contents octets of a value of a SEQUENCE
abbrev pub contents_of : TypeSyntax → TypedValue → List ℕ
contents_of (Sequence parts) value = joined (of_parts (part_encodings parts) value)
contents_of _ value = []

-- the result of a confirmed operation
abbrev pub single : TypeSyntax → TypedValue → Reply
single syntax value = reply.Single (der syntax value)

-- the error of this number. Its parameter is a value of the syntax that the number has; some have none.
abbrev pub cmis_error : ℕ → TypedValue → CmisError
cmis_error code value = record {
  code = pos code;
  parameter = option_map (λ syntax. der syntax value) (error_parameter code);
}

-- the error of this number whose parameter is what the request brought, in the form in which an ANY is kept
abbrev pub brought_error : ℕ → List ℕ → CmisError
brought_error code octets = record { code = pos code; parameter = Some octets }

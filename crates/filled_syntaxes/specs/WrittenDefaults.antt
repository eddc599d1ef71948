-- WrittenDefaults: whether DEFAULT is written in the text of a type, and not only in types that it names (X.680,
-- section 25.1).
use Rattle.std.specs.Prelude.{◌||◌, Bool, false, true}
use Rattle.asn1_syntax.specs.declared.type_text.StructureText.{StructureText}
use Rattle.asn1_syntax.specs.declared.type_text.StructureText.TheVariants.{Components', ListOf'}
use Rattle.asn1_names.specs.TermViews.{component_terms, type_term}
use Rattle.asn1_names.specs.ModuleTerms.{PresenceTerm, TypeTerm, MemberTerms}
use Rattle.asn1_names.specs.ModuleTerms.PresenceTerm.{Needed, OptionalTerm, DefaultTerm}
use Rattle.asn1_names.specs.ModuleTerms.TypeTerm.{Under, Structure, Repeated, Alternatives, Plain, Reference}
use Rattle.asn1_names.specs.ModuleTerms.MemberTerms.{NoMembers, Member}

abbrev pub is_default : PresenceTerm → Bool
is_default Needed = false
is_default OptionalTerm = false
is_default (DefaultTerm text) = true

abbrev mutual
  pub writes_default : TypeTerm → Bool
  writes_default (Under tag mode of) = writes_default of
  writes_default (Structure word members limits) = members_write members
  writes_default (Repeated word size of) = writes_default of
  writes_default (Alternatives word members limits) = members_write members
  writes_default (Plain word of limits) = false
  writes_default (Reference module_name name limits) = false

  pub members_write : MemberTerms → Bool
  members_write NoMembers = false
  members_write (Member name of presence rest) = (is_default presence || writes_default of) || members_write rest

-- the same of the components of SEQUENCE or SET, or of the type of the elements of a list
abbrev pub content_writes : StructureText → Bool
content_writes (Components' components constraints) = members_write (component_terms components)
content_writes (ListOf' size place of) = writes_default (type_term of)

-- TermLaws: in modules without a fault a type denotes a syntax where those that its text names do (X.680, sections 16
-- to 51).
use Rattle.std.proofs.Common.{◌≡◌, ℕ, suc, List, Some}
use Rattle.term_values.specs.Syntaxes.TypeParts.{NoParts}
use Rattle.asn1_names.specs.ModuleTerms.{PresenceTerm, TypeTerm, MemberTerms, ModuleTerm}
use Rattle.asn1_names.specs.ModuleTerms.TypeTerm.{Under, Structure, Repeated, Alternatives, Plain, Reference}
use Rattle.asn1_names.specs.ModuleTerms.MemberTerms.{NoMembers, Member}
use Rattle.asn1_names.specs.Containment.{IsMember, Within, Names}
use Rattle.asn1_names.specs.Containment.IsMember.{first, behind}
use Rattle.asn1_names.specs.Containment.Within.{itself, tagged, element, component, alternative}
use Rattle.asn1_names.specs.DenotedSyntax.MembersDenote.{no_members, member}
use Rattle.asn1_names.specs.FirstModuleFault.{AreFaultless}
use Rattle.asn1_names.specs.NameMeaning.{type_at}
use Rattle.asn1_names.specs.Occurrences.{Assigns, Stands}
use Rattle.asn1_numbers.proofs.MeantLaws.{reference_type}
use Rattle.denoted_types.proofs.FormLaws.{SomeDenoted, SomeParts, tagged_denotes, structure_denotes, choice_denotes}
use Rattle.denoted_types.proofs.FormLaws.{repeated_denotes}
use Rattle.denoted_types.proofs.NamedLaws.{reference_denotes}
use Rattle.denoted_types.proofs.PlainLaws.{plain_denotes}
use Rattle.denoted_types.proofs.StandLaws.{within_both}

-- the type that stands at a place denotes a syntax
abbrev pub DenotesAt : List ModuleTerm → ℕ → ℕ → Type 0
DenotesAt ms v j = (of : TypeTerm) → type_at ms v j ≡ Some of → SomeDenoted ms v of

-- a type of modules without a fault, of which each type that its text names denotes a syntax
pub record IsAround (ms : List ModuleTerm) (document m : ℕ) (whole : TypeTerm) : Type 0 where
  pub sound : AreFaultless ms
  pub assigned : Assigns ms document m whole
  pub names : (v j : ℕ) → Names ms m whole v j → DenotesAt ms v j

stands_in : {ms : List ModuleTerm} {document m : ℕ} {of whole : TypeTerm} → IsAround ms document m whole →
    Within of whole → Stands ms document m of
stands_in {whole = whole} around within = record { of = whole; assigned = around.assigned; within = within }

mutual
  pub term_denotes : {ms : List ModuleTerm} {document m : ℕ} {whole : TypeTerm} → IsAround ms document m whole →
      (of : TypeTerm) → Within of whole → SomeDenoted ms m of
  term_denotes around (Under tag mode of) within = tagged_denotes around.sound (stands_in around within)
      (term_denotes around of (within_both (tagged itself) within))
  term_denotes around (Structure word members limits) within =
      structure_denotes limits around.sound (stands_in around within)
      (members_denote around members (λ k of presence is. within_both (component is itself) within))
  term_denotes around (Repeated word size of) within = repeated_denotes around.sound (stands_in around within)
      (term_denotes around of (within_both (element itself) within))
  term_denotes around (Alternatives word members limits) within =
      choice_denotes limits around.sound (stands_in around within)
      (members_denote around members (λ k of presence is. within_both (alternative is itself) within))
  term_denotes around (Plain word of limits) within = plain_denotes around.sound (stands_in around within)
  term_denotes {ms = ms} {m = m} around (Reference module_name name limits) within =
      reference_denotes around.sound (stands_in around within) (λ v j named means.
      around.names v j
      (record {
        module_name = module_name;
        name = name;
        limits = limits;
        stands = within;
        named = named;
        means = means;
      })
      named (reference_type ms m v j module_name name named means))

  members_denote : {ms : List ModuleTerm} {document m : ℕ} {whole : TypeTerm} → IsAround ms document m whole →
      (members : MemberTerms) →
      ((k : ℕ) (of : TypeTerm) (presence : PresenceTerm) → IsMember members k of presence → Within of whole) →
      SomeParts ms m members
  members_denote around NoMembers within = λ none. none NoParts no_members
  members_denote around (Member name of presence rest) within = λ none.
      term_denotes around of (within 0 of presence first) (λ syntax denotes.
      members_denote around rest (λ k its its_presence is. within (suc k) its its_presence (behind is))
      (λ parts denote. none _ (member denotes denote)))

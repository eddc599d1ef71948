-- NextTypes: what the code tells of the type that a type names, and of the one that names lead to (X.680, section 16).
use Rattle.std.specs.Prelude.{◌≡◌, ◌++◌, ◌∷◌, [], ℕ, List, Option, None, Some}
use Rattle.asn1_names.specs.declared.standard_module.StandardType.{StandardType}
use Rattle.asn1_names.specs.FirstModuleFault.{AreFaultless}
use Rattle.asn1_names.specs.ModuleTerms.{TypeTerm, ModuleTerm}
use Rattle.asn1_names.specs.NameMeaning.{reference_meaning}
use Rattle.asn1_names.specs.NameMeaning.Meaning.{StandardType as MeansStandard}
use Rattle.asn1_names.specs.Occurrences.{Stands}
use Rattle.asn1_names.specs.PassedNames.{Passed, passed_type}
use Rattle.asn1_names.specs.TermViews.{type_term}
use Rattle.asn1_names.specs.TypeWalks.{IsNoName}
use Rattle.asn1_names.specs.WordViews.{standard_syntax_of}
use Rattle.asn1_types.specs.declared.following.Followed.{Followed}
use Rattle.asn1_types.specs.declared.following.Next.{Next}
use Rattle.asn1_types.specs.declared.following.Next.TheVariants as next
use Rattle.asn1_types.specs.FollowedNames.{AreKept, LeadsBy, NamesNext, NamesNothing, NamesStandard}

abbrev pub TellsNext : List ModuleTerm → ℕ → TypeTerm → Next → Type 0
TellsNext ms m of (next.Type v named) = NamesNext ms m of v (type_term named.now)
TellsNext ms m of (next.Standard standard) = NamesStandard ms m of standard
TellsNext ms m of next.Nothing = NamesNothing ms m of

-- a type leads by the kept names to one that is no name
pub record LeadsToType (ms : List ModuleTerm) (m : ℕ) (of : TypeTerm) (followed : Followed) : Type 0 where
  pub path : List Passed
  pub kept : AreKept followed.passed.items path
  pub leads : LeadsBy ms m of path followed.home (type_term followed.of.now)
  pub no_name : IsNoName (type_term followed.of.now)

-- a type leads by the kept names to one of CMIP-1
pub record LeadsToStandard (ms : List ModuleTerm) (m : ℕ) (of : TypeTerm) (followed : Followed)
    (standard : StandardType) : Type 0 where
  pub path : List Passed
  pub last : Passed
  pub kept : AreKept followed.passed.items (path ++ last ∷ [])
  pub leads : LeadsBy ms m of path last.home (passed_type last)
  pub means : reference_meaning ms last.home last.module_name last.name ≡ MeansStandard (standard_syntax_of standard)

abbrev pub LeadsTo : List ModuleTerm → ℕ → TypeTerm → Followed → Option StandardType → Type 0
LeadsTo ms m of followed None = LeadsToType ms m of followed
LeadsTo ms m of followed (Some standard) = LeadsToStandard ms m of followed standard

-- where a type of modules without faults leads
abbrev pub TellsEnd : List ModuleTerm → ℕ → TypeTerm → Followed → Type 0
TellsEnd ms m of followed = (document : ℕ) → AreFaultless ms → Stands ms document m of →
    LeadsTo ms m of followed followed.standard

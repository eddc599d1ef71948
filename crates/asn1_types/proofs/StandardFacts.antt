-- Examples: in the module Net, T ::= SEQUENCE { a NULL, b NULL DEFAULT NULL }, U ::= T and v, a value of U. The name U
-- leads to T, whose component 1 has a DEFAULT (X.680, sections 16 and 25.1).
use Rattle.std.proofs.Common.{◌≡◌, ℕ, zero, suc, List, [], ◌∷◌, Contains, None, Some, arith, codes, false, pos}
use Rattle.std.proofs.Common.{refl, true}
use Rattle.std.proofs.Math.Path.{subst}
use Rattle.std.specs.Borrow.{Bor}
use Rattle.token_grammar.specs.Form.{Bare, Tree}
use Rattle.asn1_values_syntax.specs.ValueTrees.{value_tree}
use Rattle.asn1_values_syntax.specs.declared.value.ValueText.{ValueText}
use Rattle.asn1_values_syntax.specs.declared.value.ValueText.TheVariants.{Literal}
use Rattle.term_values.specs.Syntaxes.TypeParts.{NoParts, Part as APart}
use Rattle.term_values.specs.Syntaxes.TypeSyntax.{Integer, NullType, Sequence}
use Rattle.asn1_names.specs.declared.standard_module.StandardType.TheVariants as standing
use Rattle.asn1_names.specs.AssignmentNumbers.{Numbered, numbered_at}
use Rattle.asn1_names.specs.CodeMeanings.{IsTypeOf}
use Rattle.asn1_names.specs.Constraining.{is_size_limit, limit_ranges}
use Rattle.asn1_names.specs.Constraining.Constrains.{no_more}
use Rattle.asn1_names.specs.Containment.IsMember.{behind, first}
use Rattle.asn1_names.specs.DefaultTexts.{HasDefault}
use Rattle.asn1_names.specs.DefaultTexts.HasDefault.{component, here, named as default_named, tagged}
use Rattle.asn1_names.specs.DenotedSyntax.{Denotes}
use Rattle.asn1_names.specs.DenotedSyntax.Denotes.{named as denotes_named, plain, sequence}
use Rattle.asn1_names.specs.DenotedSyntax.MembersDenote.{member, no_members}
use Rattle.asn1_names.specs.DenotedSyntax.PlainDenotes.{one_word}
use Rattle.asn1_names.specs.ModuleTerms.{AssignmentTerm, LimitTerm, ModuleTerm, TagTerm, TypeTerm}
use Rattle.asn1_names.specs.ModuleTerms.AssignedTerm.{AssignsValue}
use Rattle.asn1_names.specs.ModuleTerms.LimitTerm.{ValueLimit}
use Rattle.asn1_names.specs.ModuleTerms.MemberTerms.{Member, NoMembers}
use Rattle.asn1_names.specs.ModuleTerms.NumberTerm.{Digits}
use Rattle.asn1_names.specs.ModuleTerms.PlainTerm.{IntegerTerm}
use Rattle.asn1_names.specs.ModuleTerms.PresenceTerm.{DefaultTerm, Needed}
use Rattle.asn1_names.specs.ModuleTerms.TypeTerm.{Plain, Reference, Structure, Under}
use Rattle.asn1_names.specs.NameMeaning.{assigned_in, first_assignment, meaning_within, module_meaning, name_meaning}
use Rattle.asn1_names.specs.NameMeaning.{reference_meaning}
use Rattle.asn1_names.specs.NameMeaning.Meaning.{Nothing, TypeAt, ValueAt}
use Rattle.asn1_names.specs.Narrowing.{can_narrow}
use Rattle.asn1_names.specs.NodeCount.{HasNodes}
use Rattle.asn1_names.specs.NodeCount.HasNodes.{plain as nodes_plain}
use Rattle.asn1_names.specs.ResolvedTypes.HasDefaultText.{of_type as default_of_type, of_value as default_of_value}
use Rattle.asn1_names.specs.ResolvedTypes.HasSyntax.{of_type}
use Rattle.asn1_names.specs.SaidNumbers.{AllSayBounds, SaysBound}
use Rattle.asn1_names.specs.WholeNumbers.IsBound.{digits as bound_digits}
use Rattle.asn1_names.specs.WholeNumbers.IsNumber.{digits as digits_are}
use Rattle.asn1_names.proofs.Texts.{digits, module_of, named, simple, type_assignment, word}
use Rattle.asn1_types.specs.BuiltSyntaxes.{IsPart, IsWordSyntax, TakesLimits}
use Rattle.asn1_types.specs.CountedTypes.{AreCounted}
use Rattle.asn1_types.specs.FollowedNames.{LeadsBy, NamesNext, NamesNothing, NamesStandard, name_passed}
use Rattle.asn1_types.specs.FollowedNames.LeadsBy.{arrived, further}
use Rattle.asn1_types.specs.FollowedNames.NamesNothing.{no_name}
use Rattle.asn1_types.specs.MeasuredTypes.{members_listed}
use Rattle.asn1_types.specs.NextTypes.{TellsNext}
use Rattle.asn1_types.specs.declared.following.Next.TheVariants as next
use Rattle.asn1_types.specs.SoughtDefaults.{IsDefaultOf, StandsWithin, TellsDefault, TellsSought}
use Rattle.asn1_types.specs.declared.defaults.Sought.TheVariants as sought
use Rattle.asn1_types.proofs.DefaultLaws.{never_empty}
use Rattle.asn1_types.proofs.TypesLaws.{one_type}
use Rattle.asn1_types.specs.ToldMeanings.{TellsDefaultText, TellsSyntax, TellsSyntaxAt, place_meant, text_assigned}

-- the text `NULL`
abbrev null_text : Bor ValueText
null_text = record { ref_ptr = (0, 0); now = Literal (word 66 (codes "NULL")) }

abbrev null : TypeTerm
null = simple 50 (codes "NULL")

abbrev type_t : TypeTerm
type_t = Structure (word 36 (codes "SEQUENCE")) (Member (word 48 (codes "a")) null Needed
    (Member (word 56 (codes "b")) null (DefaultTerm (value_tree null_text.now)) NoMembers)) []

abbrev type_u : TypeTerm
type_u = named 80 (codes "T")

abbrev value_v : AssignmentTerm
value_v = record { name = word 90 (codes "v"); assigned = AssignsValue (named 92 (codes "U")) None Bare }

abbrev net : List ModuleTerm
net = module_of 0 (codes "Net") [] (type_assignment 30 (codes "T") type_t ∷ type_assignment 75 (codes "U") type_u ∷
    value_v ∷ []) ∷ []

-- ---- what is told of meanings

place_example : place_meant (ValueAt 3 0 type_u None Bare) ≡ Some 3
place_example = refl

no_place_example : place_meant Nothing ≡ None
no_place_example = refl

text_example : text_assigned value_v.assigned ≡ Some Bare
text_example = refl

null_denotes : Denotes net 0 null NullType
null_denotes = plain (one_word refl) no_more

means_t : reference_meaning net 0 None (word 80 (codes "T")) ≡ TypeAt 0 0 type_t
unfolding reference_meaning name_meaning assigned_in first_assignment
means_t = refl

-- the component b may be missing
u_denotes : Denotes net 0 type_u (Sequence (APart (codes "a") NullType false None
    (APart (codes "b") NullType true None NoParts)))
u_denotes = denotes_named means_t (sequence refl (member null_denotes (member null_denotes no_members))) no_more

syntax_example : TellsSyntax net (TypeAt 0 1 type_u) (Some (Sequence (APart (codes "a") NullType false None
    (APart (codes "b") NullType true None NoParts))))
syntax_example = of_type u_denotes

no_syntax_example : TellsSyntax net Nothing None
no_syntax_example = refl

no_number_example : TellsSyntaxAt net 3 None
unfolding numbered_at
no_number_example = refl

-- ---- names

t_at : numbered_at net 0 ≡ Some (record {
  in_module = 0;
  place = 0;
  assignment = type_assignment 30 (codes "T") type_t;
})
unfolding numbered_at
t_at = refl

-- U names T
u_names_t : NamesNext net 0 type_u 0 type_t
u_names_t = record {
  module_name = None;
  name = word 80 (codes "T");
  limits = [];
  is = refl;
  number = 0;
  numbered = record { in_module = 0; place = 0; assignment = type_assignment 30 (codes "T") type_t };
  at = t_at;
  assigns = refl;
  in_module = refl;
  means = means_t;
}

u_leads_to_t : LeadsBy net 0 type_u (name_passed u_names_t ∷ []) 0 type_t
u_leads_to_t = further u_names_t arrived

t_names_nothing : NamesNothing net 0 type_t
t_names_nothing = no_name tt

nothing_example : TellsNext net 0 type_t next.Nothing
nothing_example = no_name tt

-- CMIP-1.ObjectClass
names_object_class : NamesStandard net 0
    (Reference (Some (word 36 (codes "CMIP-1"))) (word 43 (codes "ObjectClass")) []) standing.ObjectClass
unfolding reference_meaning meaning_within module_meaning
names_object_class = record {
  module_name = Some (word 36 (codes "CMIP-1"));
  name = word 43 (codes "ObjectClass");
  limits = [];
  is = refl;
  means = refl;
}

-- ---- texts of DEFAULT

b_default : HasDefault net 0 type_t (1 ∷ []) 0 (value_tree null_text.now)
b_default = here (behind first)

default_example : TellsDefaultText net (TypeAt 0 1 type_u) (1 ∷ []) (Some (0, null_text))
default_example = default_of_type (default_named means_t b_default)

of_value_example : TellsDefaultText net (ValueAt 0 2 type_u None Bare) (1 ∷ []) (Some (0, null_text))
of_value_example = default_of_value (default_named means_t b_default)

-- the component a has none
none_at_a : {w : ℕ} {text : Tree} → HasDefault net 0 type_t (0 ∷ []) w text → ⊥
none_at_a (here there) = elim there [ ]
none_at_a (component there h) = never_empty h

no_default_example : TellsDefaultText net (TypeAt 0 0 type_t) (0 ∷ []) None
no_default_example w text (default_of_type h) = none_at_a h

needed_example : IsDefaultOf Needed None
needed_example text is = absurd (cc)

-- what stands in T stands in [3] T, at the same path
abbrev three : TagTerm
three = record { class = None; number = Digits false (digits 33 (codes "3")) }

under_three : {w : ℕ} {text : Tree} → HasDefault net 0 (Under three None type_t) (1 ∷ []) w text →
    HasDefault net 0 type_t (1 ∷ []) w text
under_three (tagged h) = h

tagged_example : StandsWithin net 0 (Under three None type_t) (1 ∷ []) 0 type_t (1 ∷ [])
tagged_example = record { down = λ w text h. under_three h; up = λ w text h. tagged h }

sought_example : TellsSought net 0 null (0 ∷ []) 0 sought.Nothing
sought_example w text h = elim h [ ]

none_example : TellsDefault net 0 null [] None
none_example w text h = elim h [ ]

-- ---- nodes

-- of T ::= NULL, the one assignment of its module
abbrev only : List ModuleTerm
only = module_of 0 (codes "Net") [] (type_assignment 30 (codes "T") null ∷ []) ∷ []

type_of_null : IsTypeOf only 0 0 null
unfolding numbered_at
type_of_null = record {
  numbered = record { in_module = 0; place = 0; assignment = type_assignment 30 (codes "T") null };
  at = refl;
  module_is = refl;
  is = refl;
}

no_further : (k : ℕ) (x : Numbered) → numbered_at only (suc k) ≡ Some x → ⊥
unfolding numbered_at
no_further k x is = absurd (cc)

counted_example : AreCounted only
counted_example zero m of is = one_type only (λ h t. (n : ℕ) × HasNodes only h t n) 0 0 m null of type_of_null is
    (1, nodes_plain)
counted_example (suc k) m of is = absurd (no_further k is.numbered is.at)

-- ---- what is built

-- the constraint of INTEGER (3)
abbrev limited : TypeTerm
limited = Plain (word 36 (codes "INTEGER")) (IntegerTerm []) (ValueLimit (record {
  lower = Digits false (digits 45 (codes "3"));
  upper = None;
} ∷ []) ∷ [])

says_three : SaysBound net 0 limited (Digits false (digits 45 (codes "3")))
says_three none = none (pos 3) (bound_digits (digits_are (omega arith, (omega arith, tt)) refl (record {
  at_least = omega arith;
  below = omega arith;
})))

abbrev three_alone : LimitTerm
three_alone = ValueLimit (record { lower = Digits false (digits 45 (codes "3")); upper = None } ∷ [])

limit_said : (limit : LimitTerm) → Contains (three_alone ∷ []) limit → AllSayBounds net 0 limited (limit_ranges limit)
limit_said limit (zero, within, is) =
    subst (λ l. AllSayBounds net 0 limited (limit_ranges l)) is (says_three, says_three, tt)
limit_said limit (suc k, within, is) = absurd (omega (arith, within))

limit_placed : (limit : LimitTerm) → Contains (three_alone ∷ []) limit →
    can_narrow (is_size_limit limit) (Integer [] []) ≡ true
limit_placed limit (zero, within, is) = subst (λ l. can_narrow (is_size_limit l) (Integer [] []) ≡ true) is refl
limit_placed limit (suc k, within, is) = absurd (omega (arith, within))

limits_example : TakesLimits net 0 limited (three_alone ∷ []) (Integer [] [])
limits_example = record { said = limit_said; placed = limit_placed }

word_example : IsWordSyntax (codes "NULL") NullType
word_example known = refl

members_example : members_listed (record { name = word 48 (codes "a"); of = null; presence = Needed } ∷ []) ≡
    Member (word 48 (codes "a")) null Needed NoMembers
members_example = refl

part_example : IsPart (record { name = codes "a"; syntax = NullType; optional = true; default = None }) (codes "a")
    NullType true
part_example = record { called = refl; of = refl; may_miss = refl; no_default = refl }

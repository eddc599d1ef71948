-- Examples of docs/PROFILE.md, section 11, computed: what names mean, which syntaxes types denote, and faults.
use Rattle.std.specs.Prelude.{◌≡◌, ◌<◌, ℕ, zero, suc, ℤ, pos, negsuc, List, [], ◌∷◌, true, false, ◌&&◌}
use Rattle.std.specs.Prelude.{None, Some, codes, refl}
use Rattle.std.specs.Str.Parse.{IsNumeral}
use Rattle.std.proofs.Common.{inl, inr, arith}
use Rattle.token_grammar.specs.Form.{Bare}
use Rattle.term_values.specs.CmipTypes.{attribute_id}
use Rattle.term_values.specs.Syntaxes.TypeSyntax.{NullType, Choice, Tagged}
use Rattle.term_values.specs.Syntaxes.TypeParts.{NoParts, Part as APart}
use Rattle.term_values.specs.Tag.{context}
use Rattle.term_values.specs.UniversalTags.{null, integer}
use Rattle.asn1_names.specs.ModuleTerms.{TagTerm, PresenceTerm, TypeTerm, MemberTerms, ModuleTerm}
use Rattle.asn1_names.specs.ModuleTerms.{AssignmentTerm}
use Rattle.asn1_names.specs.ModuleTerms.NumberTerm.{Digits, Called}
use Rattle.asn1_names.specs.ModuleTerms.PlainTerm.{IntegerTerm, AnyTerm}
use Rattle.asn1_names.specs.ModuleTerms.PresenceTerm.{Needed, OptionalTerm}
use Rattle.asn1_names.specs.ModuleTerms.TypeTerm.{Under, Alternatives, Plain}
use Rattle.asn1_names.specs.ModuleTerms.MemberTerms.{NoMembers, Member}
use Rattle.asn1_names.specs.ModuleTerms.AssignedTerm.{AssignsValue}
use Rattle.asn1_names.specs.Constraining.Constrains.{no_more}
use Rattle.asn1_names.specs.DenotedSyntax.{has_implicit_default, Denotes}
use Rattle.asn1_names.specs.DenotedSyntax.PlainDenotes.{one_word}
use Rattle.asn1_names.specs.DenotedSyntax.Denotes.{tagged, choice, plain}
use Rattle.asn1_names.specs.DenotedSyntax.MembersDenote.{no_members, member}
use Rattle.asn1_names.specs.FirstModuleFault.{IsNoLater}
use Rattle.asn1_names.specs.FirstModuleFault.FaultKind.{TypeUnknown, TagsAmbiguous}
use Rattle.asn1_names.specs.FirstModuleFault.IsNoLater.{earlier_token}
use Rattle.asn1_names.specs.ModuleFaults.{UnknownTypeAt, CyclicTypeAt, AmbiguousTagsAt, IsOtherType}
use Rattle.asn1_names.specs.ModuleFaults.UnknownTypeAt.{alone}
use Rattle.asn1_names.specs.Occurrences.{Stands, first_word}
use Rattle.asn1_names.specs.TypeWords.{is_other_type_word}
use Rattle.asn1_names.specs.WholeNumbers.{FitsSixtyFour, IsNumber, IsTag}
use Rattle.asn1_names.specs.WholeNumbers.IsNumber.{digits as digits_are, value as value_is}
use Rattle.asn1_names.specs.Containment.{IsMember, IsCyclic}
use Rattle.asn1_names.specs.Containment.IsMember.{first, behind}
use Rattle.asn1_names.specs.Containment.Within.{itself, alternative}
use Rattle.asn1_names.specs.Containment.ContainsType.{directly}
use Rattle.asn1_names.specs.NameMeaning.{name_meaning, reference_meaning, first_module, module_meaning}
use Rattle.asn1_names.specs.NameMeaning.{first_assignment, assigned_in, meaning_within, imported_from, import_of}
use Rattle.asn1_names.specs.NameMeaning.{imported_meaning, type_at}
use Rattle.asn1_names.specs.NameMeaning.Meaning.{TypeAt, ValueAt, StandardType, Nothing}
use Rattle.asn1_names.specs.NodeCount.{HasNodes}
use Rattle.asn1_names.specs.NodeCount.HasNodes.{cyclic, alternatives, unknown, plain as plain_node}
use Rattle.asn1_names.specs.NodeCount.HaveNodes.{no_members as no_member_nodes, member as member_nodes}
use Rattle.asn1_names.specs.TagClashes.{RunShares, may_be_absent}
use Rattle.asn1_names.specs.TagClashes.IsAmbiguous.{choice as choice_clash}
use Rattle.asn1_names.specs.TypeTags.{ShareTag}
use Rattle.asn1_names.specs.TypeTags.Begins.{plain as begins_plain}
use Rattle.asn1_names.proofs.Texts.{word, digits, simple, named, type_assignment, module_of, import_of as imports}

-- Net has A twice, and B from Other twice: A means the first assignment, B the first import; Other has B
abbrev net : ModuleTerm
net = module_of 0 (codes "Net") (imports (word 20 (codes "B")) 27 (codes "Other") ∷ imports (word 33 (codes "B")) 40
    (codes "Further") ∷ imports (word 50 (codes "AttributeId")) 67 (codes "CMIP-1") ∷ [])
    (type_assignment 80 (codes "A") (simple 86 (codes "NULL")) ∷ type_assignment 91 (codes "A") (simple 97
    (codes "BOOLEAN")) ∷ [])

abbrev other : ModuleTerm
other = module_of 1 (codes "Other") [] (type_assignment 30 (codes "B") (simple 36 (codes "BOOLEAN")) ∷ [])

abbrev both_modules : List ModuleTerm
both_modules = net ∷ other ∷ []

own_example : name_meaning both_modules 0 (codes "A") ≡ TypeAt 0 0 (simple 86 (codes "NULL"))
unfolding name_meaning assigned_in first_assignment
own_example = refl

imported_example : name_meaning both_modules 0 (codes "B") ≡ TypeAt 1 0 (simple 36 (codes "BOOLEAN"))
unfolding name_meaning assigned_in first_assignment import_of imported_from imported_meaning module_meaning
    first_module meaning_within
imported_example = refl

standard_example : name_meaning both_modules 0 (codes "AttributeId") ≡ StandardType attribute_id
unfolding name_meaning assigned_in first_assignment import_of imported_from imported_meaning module_meaning
    first_module meaning_within
standard_example = refl

-- a module has what it assigns alone: neither A of Net in Other, nor B in Net by Net's name
foreign_example : name_meaning both_modules 1 (codes "A") ≡ Nothing
unfolding name_meaning assigned_in first_assignment import_of imported_from imported_meaning
foreign_example = refl

handed_on_example : reference_meaning both_modules 1 (Some (word 40 (codes "Net"))) (word 44 (codes "B")) ≡ Nothing
unfolding reference_meaning assigned_in first_assignment module_meaning first_module meaning_within
handed_on_example = refl

-- 3 is a number, and so is the name of a value that is 3
abbrev three : AssignmentTerm
three = record {
  name = word 30 (codes "three");
  assigned = AssignsValue (Plain (word 36 (codes "INTEGER"))
      (IntegerTerm []) []) (Some (Digits false (digits 48 (codes "3")))) Bare;
}

abbrev numbers : List ModuleTerm
numbers = module_of 0 (codes "Numbers") [] (three ∷ []) ∷ []

three_fits : FitsSixtyFour (pos 3)
three_fits = record { at_least = omega arith; below = omega arith }

three_digits : IsNumeral 10 (codes "3")
three_digits = (omega arith, (omega arith, tt))

digits_example : IsNumber numbers 0 (Digits false (digits 48 (codes "3"))) (pos 3)
digits_example = digits_are three_digits refl three_fits

value_meaning_example : name_meaning numbers 0 (codes "three") ≡ ValueAt 0 0 (Plain (word 36 (codes "INTEGER"))
    (IntegerTerm []) []) (Some (Digits false (digits 48 (codes "3")))) Bare
unfolding name_meaning assigned_in first_assignment
value_meaning_example = refl

named_number_example : IsNumber numbers 0 (Called (word 70 (codes "three"))) (pos 3)
named_number_example = value_is value_meaning_example digits_example

-- [3] CHOICE { a NULL } in a module with implicit tags is explicit, and [3] IMPLICIT NULL is implicit
abbrev tag_three : TagTerm
tag_three = record { class = None; number = Digits false (digits 48 (codes "3")) }

abbrev one_alternative : TypeTerm
one_alternative = Alternatives (word 51 (codes "CHOICE")) (Member (word 60 (codes "a")) (simple 62
    (codes "NULL")) Needed NoMembers) []

abbrev implicit_modules : List ModuleTerm
implicit_modules = record {
  document = 0;
  name = word 0 (codes "Net");
  is_implicit = true;
  imports = [];
  assignments = [];
} ∷ []

tag_example : IsTag implicit_modules 0 tag_three (context 3)
tag_example = record { class = refl; number = digits_are three_digits refl three_fits; below = omega arith }

null_denotes : Denotes implicit_modules 0 (simple 62 (codes "NULL")) NullType
null_denotes = plain (one_word refl) no_more

choice_example : Denotes implicit_modules 0 (Under tag_three None one_alternative) (Tagged (context 3) true (Choice
    (APart (codes "a") NullType false None NoParts)))
unfolding has_implicit_default
choice_example = tagged tag_example (choice (member null_denotes no_members))

implicit_example : Denotes implicit_modules 0 (Under tag_three (Some (word 51 (codes "IMPLICIT"))) (simple 62
    (codes "NULL"))) (Tagged (context 3) false NullType)
unfolding has_implicit_default
implicit_example = tagged tag_example null_denotes

-- B ::= B contains itself
abbrev cycle : List ModuleTerm
cycle = module_of 0 (codes "Net") [] (type_assignment 30 (codes "B") (named 36 (codes "B")) ∷ []) ∷ []

cycle_at : type_at cycle 0 0 ≡ Some (named 36 (codes "B"))
unfolding type_at
cycle_at = refl

cycle_means : reference_meaning cycle 0 None (word 36 (codes "B")) ≡ TypeAt 0 0 (named 36 (codes "B"))
unfolding reference_meaning name_meaning assigned_in first_assignment
cycle_means = refl

cycle_example : IsCyclic cycle 0 0
cycle_example = directly cycle_at (record {
  module_name = None;
  name = word 36 (codes "B");
  limits = [];
  stands = itself;
  named = named 36 (codes "B");
  means = cycle_means;
})

cycle_fault : CyclicTypeAt cycle 0 30
cycle_fault = record {
  m = 0;
  in_module = module_of 0 (codes "Net") [] (type_assignment 30 (codes "B") (named 36
      (codes "B")) ∷ []);
  is_in = record { module_at = refl; numbered = refl };
  i = 0;
  assignment = type_assignment 30
      (codes "B") (named 36 (codes "B"));
  stands = refl;
  cyclic = cycle_example;
  at = refl;
}

-- CHOICE { a NULL, b NULL, c Nowhere }: tags don't decide, at CHOICE, and this stands before the unknown type
abbrev two_nulls : MemberTerms
two_nulls = Member (word 44 (codes "a")) (simple 46 (codes "NULL")) Needed (Member (word 52 (codes "b")) (simple 54
    (codes "NULL")) Needed (Member (word 60 (codes "c")) (named 62 (codes "Nowhere")) Needed NoMembers))

abbrev clash : TypeTerm
clash = Alternatives (word 36 (codes "CHOICE")) two_nulls []

abbrev clashing : List ModuleTerm
clashing = module_of 2 (codes "Net") [] (type_assignment 30 (codes "T") clash ∷ []) ∷ []

clash_share : ShareTag clashing 0 (simple 46 (codes "NULL")) (simple 54 (codes "NULL"))
clash_share = record { tag = null; begins_one = begins_plain refl; begins_other = begins_plain refl }

abbrev clash_stands : Stands clashing 2 0 clash
clash_stands = record {
  of = clash;
  assigned = record {
    in_module = module_of 2 (codes "Net") [] (type_assignment 30
        (codes "T") clash ∷ []);
    is_in = record { module_at = refl; numbered = refl };
    assignment = type_assignment 30
        (codes "T") clash;
    stands = (0, omega arith, refl);
    is_of = refl;
  };
  within = itself;
}

clash_fault : AmbiguousTagsAt clashing 2 36
clash_fault = record {
  m = 0;
  of = clash;
  stands = clash_stands;
  word = word 36 (codes "CHOICE");
  ambiguous =
      choice_clash (record {
        earlier = 0;
        later = 1;
        rising = omega arith;
        one = simple 46 (codes "NULL");
        one_presence = Needed;
        is_one = first;
        other = simple 54 (codes "NULL");
        other_presence = Needed;
        is_other = behind first;
        share = clash_share;
      });
  at = refl;
}

nowhere_means : reference_meaning clashing 0 None (word 62 (codes "Nowhere")) ≡ Nothing
unfolding reference_meaning name_meaning assigned_in first_assignment import_of imported_from imported_meaning
nowhere_means = refl

-- false is not true
bool_clash : false ≡ true → ⊥
bool_clash e = absurd (cc)

nowhere_free : ¬ IsOtherType clashing 0 (word 62 (codes "Nowhere"))
unfolding is_other_type_word
nowhere_free is = bool_clash is.word

nowhere_fault : UnknownTypeAt clashing 2 62
nowhere_fault = alone (record {
  of = clash;
  assigned = clash_stands.assigned;
  within = alternative (behind
      (behind first)) itself;
}) (rw nowhere_means tt) nowhere_free refl

clash_first : IsNoLater TagsAmbiguous 2 36 TypeUnknown 2 62
clash_first = earlier_token refl (omega arith)

-- SEQUENCE { op INTEGER, argument ANY OPTIONAL }: an ANY that is last and has no other in its run needs no tag
abbrev any_last : MemberTerms
any_last = Member (word 40 (codes "op")) (Plain (word 43 (codes "INTEGER")) (IntegerTerm []) []) Needed (Member
    (word 52 (codes "argument")) (Plain (word 61 (codes "ANY")) AnyTerm []) OptionalTerm NoMembers)

any_pair : {k n : ℕ} {one other : TypeTerm} {presence its_presence : PresenceTerm} → IsMember any_last k one presence →
    may_be_absent presence ≡ true → IsMember any_last n other its_presence → k < n → ⊥
any_pair first may is_other rising = absurd (cc)
any_pair (behind first) may first rising = absurd (omega (arith, rising))
any_pair (behind first) may (behind first) rising = absurd (omega (arith, rising))
any_pair (behind first) may (behind (behind deeper)) rising = elim deeper [ ]
any_pair (behind (behind deeper)) may is_other rising = elim deeper [ ]

any_alone : RunShares clashing 0 any_last → ⊥
any_alone shares = any_pair shares.is_one shares.may_miss shares.is_other shares.rising

-- SEQUENCE { a INTEGER OPTIONAL, b ANY }: they compete
any_behind : RunShares clashing 0 (Member (word 40 (codes "a")) (Plain (word 42 (codes "INTEGER"))
    (IntegerTerm []) []) OptionalTerm (Member (word 59 (codes "b")) (Plain (word 61
    (codes "ANY")) AnyTerm []) Needed NoMembers))
any_behind = record {
  earlier = 0;
  later = 1;
  rising = omega arith;
  one = Plain (word 42 (codes "INTEGER"))
      (IntegerTerm []) [];
  one_presence = OptionalTerm;
  is_one = first;
  may_miss = refl;
  between = λ k above below. absurd (omega (arith, above, below));
  other = Plain (word 61 (codes "ANY")) AnyTerm [];
  other_presence = Needed;
  is_other = behind first;
  share = record {
    tag = integer;
    begins_one = begins_plain refl;
    begins_other = begins_plain tt;
  };
}

-- [APPLICATION 3] IMPLICIT T: its first word is APPLICATION; of [3] IMPLICIT T it is IMPLICIT
application_example : first_word (Under (record {
  class = Some (word 5 (codes "APPLICATION"));
  number = Digits false
      (digits 17 (codes "3"));
}) (Some (word 20 (codes "IMPLICIT"))) (named 29 (codes "T"))) ≡ word 5
    (codes "APPLICATION")
application_example = refl

implicit_word_example : first_word (Under tag_three (Some (word 51 (codes "IMPLICIT"))) (named 60 (codes "T")))
    ≡ word 51 (codes "IMPLICIT")
implicit_word_example = refl

-- B ::= B has no nodes; a CHOICE of two and an unknown type has three
cycle_nodes : HasNodes cycle 0 (named 36 (codes "B")) 0
cycle_nodes = cyclic cycle_means cycle_example

clash_nodes : HasNodes clashing 0 clash 3
clash_nodes = alternatives (member_nodes plain_node (member_nodes plain_node (member_nodes (unknown
    (rw nowhere_means tt)) no_member_nodes)))

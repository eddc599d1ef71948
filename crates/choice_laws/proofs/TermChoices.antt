-- TermChoices: in what a type says each CHOICE has an alternative, if this is so in each type in it.
use Rattle.std.specs.Prelude.{ℕ, List, Option}
use Rattle.token_grammar.specs.declared.token.Token.{Token}
use Rattle.asn1_names.specs.Containment.{IsMember, Within}
use Rattle.asn1_names.specs.Containment.IsMember.{first, behind}
use Rattle.asn1_names.specs.Containment.Within.{tagged, element, component, alternative}
use Rattle.asn1_names.specs.ModuleTerms.{LimitTerm, MemberTerms, PlainTerm, PresenceTerm, RangeTerm, TagTerm, TypeTerm}
use Rattle.asn1_names.specs.ModuleTerms.MemberTerms.{NoMembers, Member}
use Rattle.asn1_names.specs.ModuleTerms.TypeTerm.{Under, Structure, Repeated, Alternatives, Plain, Reference}

-- each CHOICE in the text of a type has an alternative
pub record IsFilled (of : TypeTerm) : Type 0 where
  pub none_empty : (word : Token) (limits : List LimitTerm) → ¬ Within (Alternatives word NoMembers limits) of

-- the same of each component, or alternative
pub record AreFilled (members : MemberTerms) : Type 0 where
  pub each : (k : ℕ) (of : TypeTerm) (presence : PresenceTerm) → IsMember members k of presence → IsFilled of

-- ---- members

in_no_members : (k : ℕ) (of : TypeTerm) (presence : PresenceTerm) → IsMember NoMembers k of presence → IsFilled of
in_no_members k of presence is = elim is [ ]

pub no_members : AreFilled NoMembers
no_members = record { each = in_no_members }

in_members : (name : Token) (of : TypeTerm) (presence : PresenceTerm) (rest : MemberTerms) → IsFilled of →
    AreFilled rest → (k : ℕ) (inner : TypeTerm) (further : PresenceTerm) →
    IsMember (Member name of presence rest) k inner further → IsFilled inner
in_members name of presence rest one others _ _ _ first = one
in_members name of presence rest one others _ _ _ (behind {of = inner} {presence = further} {k = k} is) =
    others.each k inner further is

pub one_member : (name : Token) (of : TypeTerm) (presence : PresenceTerm) (rest : MemberTerms) → IsFilled of →
    AreFilled rest → AreFilled (Member name of presence rest)
one_member name of presence rest one others = record { each = in_members name of presence rest one others }

-- ---- types

in_plain : (word : Token) (of : PlainTerm) (limits : List LimitTerm) (choice : Token) (others : List LimitTerm) →
    ¬ Within (Alternatives choice NoMembers others) (Plain word of limits)
in_plain word of limits choice others within = elim within [ ]

pub plain_filled : (word : Token) (of : PlainTerm) (limits : List LimitTerm) → IsFilled (Plain word of limits)
plain_filled word of limits = record { none_empty = in_plain word of limits }

in_reference : (module_name : Option Token) (name : Token) (limits : List LimitTerm) (choice : Token)
    (others : List LimitTerm) → ¬ Within (Alternatives choice NoMembers others) (Reference module_name name limits)
in_reference module_name name limits choice others within = elim within [ ]

pub reference_filled : (module_name : Option Token) (name : Token) (limits : List LimitTerm) →
    IsFilled (Reference module_name name limits)
reference_filled module_name name limits = record { none_empty = in_reference module_name name limits }

in_tagged : (tag : TagTerm) (mode : Option Token) (of : TypeTerm) → IsFilled of → (choice : Token)
    (others : List LimitTerm) → ¬ Within (Alternatives choice NoMembers others) (Under tag mode of)
in_tagged tag mode of filled choice others (tagged within) = filled.none_empty choice others within

pub tagged_filled : (tag : TagTerm) (mode : Option Token) (of : TypeTerm) → IsFilled of → IsFilled (Under tag mode of)
tagged_filled tag mode of filled = record { none_empty = in_tagged tag mode of filled }

in_repeated : (word : Token) (size : Option (List RangeTerm)) (of : TypeTerm) → IsFilled of → (choice : Token)
    (others : List LimitTerm) → ¬ Within (Alternatives choice NoMembers others) (Repeated word size of)
in_repeated word size of filled choice others (element within) = filled.none_empty choice others within

pub repeated_filled : (word : Token) (size : Option (List RangeTerm)) (of : TypeTerm) → IsFilled of →
    IsFilled (Repeated word size of)
repeated_filled word size of filled = record { none_empty = in_repeated word size of filled }

in_structure : (word : Token) (parts : MemberTerms) (limits : List LimitTerm) → AreFilled parts →
    (choice : Token) (others : List LimitTerm) →
    ¬ Within (Alternatives choice NoMembers others) (Structure word parts limits)
in_structure word parts limits filled choice others (component {k = k} {of = of} {presence = presence} is within) =
    (filled.each k of presence is).none_empty choice others within

pub structure_filled : (word : Token) (parts : MemberTerms) (limits : List LimitTerm) → AreFilled parts →
    IsFilled (Structure word parts limits)
structure_filled word parts limits filled = record { none_empty = in_structure word parts limits filled }

in_choice : (word name : Token) (first_of : TypeTerm) (before : PresenceTerm) (rest : MemberTerms)
    (limits : List LimitTerm) → AreFilled (Member name first_of before rest) → (choice : Token)
    (others : List LimitTerm) →
    ¬ Within (Alternatives choice NoMembers others) (Alternatives word (Member name first_of before rest) limits)
in_choice word name first_of before rest limits filled choice others (alternative {k = k} {of = of}
    {presence = presence} is within) = (filled.each k of presence is).none_empty choice others within

-- a CHOICE with an alternative
pub choice_filled : (word name : Token) (of : TypeTerm) (presence : PresenceTerm) (rest : MemberTerms)
    (limits : List LimitTerm) → AreFilled (Member name of presence rest) →
    IsFilled (Alternatives word (Member name of presence rest) limits)
choice_filled word name of presence rest limits filled =
    record { none_empty = in_choice word name of presence rest limits filled }

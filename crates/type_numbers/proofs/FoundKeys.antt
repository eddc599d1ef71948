-- FoundKeys: each syntax that a type denotes has a key that goes with the type: no syntax of modules has values of
-- DEFAULT, and bounds, which names on the way may set, change no mark.
use Rattle.std.proofs.Common.{◌≡◌, [], ◌∙◌, ℕ, ℤ, List, Bool, true, false, None, ap, refl, sym}
use Rattle.std.proofs.Math.Path.{subst}
use Rattle.token_grammar.specs.declared.token.Token.{Token}
use Rattle.term_values.specs.Syntaxes.{Bounds, TypeSyntax, TypeParts}
use Rattle.term_values.specs.Syntaxes.TypeSyntax.{Sequence, SetType}
use Rattle.term_values.specs.Syntaxes.TypeSyntax.{SequenceOf, SetOf, Choice, Tagged}
use Rattle.term_values.specs.Syntaxes.TypeParts.{Part}
use Rattle.asn1_names.specs.Constraining.{Constrains, Narrows}
use Rattle.asn1_names.specs.Constraining.Narrows.{values as narrows_values, bits as narrows_bits}
use Rattle.asn1_names.specs.Constraining.Narrows.{octets as narrows_octets, characters as narrows_characters}
use Rattle.asn1_names.specs.Constraining.Narrows.{elements as narrows_elements, members as narrows_members}
use Rattle.asn1_names.specs.Constraining.Narrows.{tagged as narrows_tagged}
use Rattle.asn1_names.specs.Constraining.Constrains.{no_more as constrains_no_more, another as constrains_another}
use Rattle.asn1_names.specs.DenotedSyntax.{Denotes, MembersDenote, PlainDenotes, has_implicit_default, is_explicit}
use Rattle.asn1_names.specs.DenotedSyntax.Denotes.{tagged as denotes_tagged, sequence as denotes_sequence}
use Rattle.asn1_names.specs.DenotedSyntax.Denotes.{set as denotes_set, choice as denotes_choice}
use Rattle.asn1_names.specs.DenotedSyntax.Denotes.{sequence_of as denotes_sequence_of, set_of as denotes_set_of}
use Rattle.asn1_names.specs.DenotedSyntax.Denotes.{plain as denotes_plain, named as denotes_named}
use Rattle.asn1_names.specs.DenotedSyntax.Denotes.{standard as denotes_standard}
use Rattle.asn1_names.specs.DenotedSyntax.MembersDenote.{no_members, member}
use Rattle.asn1_names.specs.DenotedSyntax.PlainDenotes.{one_word, integer as denotes_integer, enumerated, bit_string}
use Rattle.asn1_names.specs.DenotedSyntax.PlainDenotes.{octet_string, object_identifier, any}
use Rattle.asn1_names.specs.ModuleTerms.{LimitTerm, MemberTerms, ModuleTerm, TypeTerm}
use Rattle.asn1_names.specs.ModuleTerms.TypeTerm.{Plain}
use Rattle.asn1_names.specs.TagClashes.{may_be_absent}
use Rattle.key_numbers.specs.TypeKeys.{TypeKey, PartKeys, has_mark, key_parts, key_syntax}
use Rattle.key_numbers.specs.TypeKeys.TypeKey.{IntegerKey, BitStringKey, OctetStringKey}
use Rattle.key_numbers.specs.TypeKeys.TypeKey.{TextKey, SequenceKey, SetKey}
use Rattle.key_numbers.specs.TypeKeys.TypeKey.{SequenceOfKey, SetOfKey, ChoiceKey, TaggedKey}
use Rattle.key_numbers.specs.TypeKeys.PartKeys.{NoKeys, PartKey}
use Rattle.type_numbers.specs.KeysBeside.{AreBeside, IsBeside}
use Rattle.type_numbers.specs.KeysBeside.IsBeside.{tagged, sequence, set, choice, sequence_of, set_of, plain, named}
use Rattle.type_numbers.specs.KeysBeside.IsBeside.{standard}
use Rattle.type_numbers.specs.KeysBeside.AreBeside.{no_more, another}
use Rattle.type_numbers.specs.MarkedKeys.{marked}
use Rattle.type_numbers.specs.PlacedTerms.{stands_default}
use Rattle.type_numbers.proofs.MeaningLaws.{marked_again}
use Rattle.type_numbers.proofs.WholeSyntaxes.{nowhere, nowhere_marked, whole_meant, word_whole}

-- ---- bounds change no mark

-- two keys that bounds alone tell apart
data IsRebound : TypeKey → TypeKey → Type 0 where
  integer : {names : _} {before after : Bounds} → IsRebound (IntegerKey names before) (IntegerKey names after)
  bits : {names : _} {before after : Bounds} → IsRebound (BitStringKey names before) (BitStringKey names after)
  octets : {before after : Bounds} → IsRebound (OctetStringKey before) (OctetStringKey after)
  text : {charset : _} {before after : Bounds} → IsRebound (TextKey charset before) (TextKey charset after)
  elements : {of : TypeKey} {before after : Bounds} → IsRebound (SequenceOfKey of before) (SequenceOfKey of after)
  members : {of : TypeKey} {before after : Bounds} → IsRebound (SetOfKey of before) (SetOfKey of after)
  under : {tag : _} {explicit : Bool} {of by : TypeKey} → IsRebound of by →
      IsRebound (TaggedKey tag explicit of) (TaggedKey tag explicit by)

rebound_mark : {one other : TypeKey} → IsRebound one other → (path : List ℕ) → has_mark one path ≡ has_mark other path
rebound_mark integer path = refl
rebound_mark bits path = refl
rebound_mark octets path = refl
rebound_mark text path = refl
rebound_mark elements path = refl
rebound_mark members path = refl
rebound_mark (under r) path = rebound_mark r path

rebound_beside : {ms : List ModuleTerm} {m : ℕ} {of : TypeTerm} {one other : TypeKey} → IsBeside ms m of one →
    IsRebound one other → IsBeside ms m of other
rebound_beside (sequence bs) r = elim r [ ]
rebound_beside (set bs) r = elim r [ ]
rebound_beside (choice bs) r = elim r [ ]
rebound_beside (tagged b) (under r) = tagged (rebound_beside b r)
rebound_beside (sequence_of b) elements = sequence_of b
rebound_beside (set_of b) members = set_of b
rebound_beside (plain u) r = plain (λ path. sym (rebound_mark r path) ∙ u path)
rebound_beside (named e b) r = named e (rebound_beside b r)
rebound_beside (standard e u) r = standard e (λ path. sym (rebound_mark r path) ∙ u path)

narrowed : {ranges : List (ℤ × ℤ)} {is_size : Bool} {one other : TypeSyntax} → Narrows ranges is_size one other →
    (f : List ℕ → Bool) → IsRebound (marked one f) (marked other f)
narrowed (narrows_values h) f = integer
narrowed (narrows_bits h) f = bits
narrowed (narrows_octets h) f = octets
narrowed (narrows_characters h) f = text
narrowed (narrows_elements h) f = elements
narrowed (narrows_members h) f = members
narrowed (narrows_tagged h) f = under (narrowed h f)

abbrev element_of : TypeSyntax → TypeSyntax
element_of (SequenceOf of bounds) = of
element_of (SetOf of bounds) = of
element_of (Tagged tag explicit of) = of
element_of s = s

narrowed_whole : {ranges : List (ℤ × ℤ)} {is_size : Bool} {one other : TypeSyntax} → Narrows ranges is_size one other →
    (f : List ℕ → Bool) → key_syntax (marked one f) ≡ one → key_syntax (marked other f) ≡ other
narrowed_whole (narrows_values h) f e = refl
narrowed_whole (narrows_bits h) f e = refl
narrowed_whole (narrows_octets h) f e = refl
narrowed_whole (narrows_characters h) f e = refl
narrowed_whole (narrows_elements {after = after} h) f e = ap (λ s. SequenceOf (element_of s) after) e
narrowed_whole (narrows_members {after = after} h) f e = ap (λ s. SetOf (element_of s) after) e
narrowed_whole (narrows_tagged {explicit = explicit} {tag = tag} h) f e =
    ap (λ s. Tagged tag explicit s) (narrowed_whole h f (ap element_of e))

-- ---- a syntax that is denoted has a key

-- a key has this syntax, and goes with the type
pub record HasKey (ms : List ModuleTerm) (m : ℕ) (of : TypeTerm) (syntax : TypeSyntax) : Type 0 where
  pub key : TypeKey
  pub is : key_syntax key ≡ syntax
  pub beside : IsBeside ms m of key

-- keys have these parts, and go with the components, or the alternatives
record HaveKeys (ms : List ModuleTerm) (components : Bool) (m : ℕ) (members : MemberTerms) (parts : TypeParts)
    : Type 0 where
  keys : PartKeys
  are : key_parts keys ≡ parts
  beside : AreBeside ms components m members keys

marked_whole : (key : TypeKey) (s : TypeSyntax) → key_syntax key ≡ s → marked s (has_mark key) ≡ key
marked_whole key s e = ap (λ t. marked t (has_mark key)) (sym e) ∙ marked_again key (has_mark key) (λ k path. refl)

narrowed_key : {ms : List ModuleTerm} {m : ℕ} {of : TypeTerm} {ranges : List (ℤ × ℤ)} {is_size : Bool}
    {one other : TypeSyntax} → Narrows ranges is_size one other → HasKey ms m of one → HasKey ms m of other
narrowed_key {ms = ms} {m = m} {of = of} {one = one} {other = other} n has =
    let f : List ℕ → Bool = has_mark has.key in
    let same : marked one f ≡ has.key = marked_whole has.key one has.is in record {
      key = marked other f;
      is = narrowed_whole n f (ap key_syntax same ∙ has.is);
      beside = rebound_beside (subst (λ k. IsBeside ms m of k) (sym same) has.beside) (narrowed n f);
    }

constrained_key : {ms : List ModuleTerm} {m home : ℕ} {of within : TypeTerm} {limits : List LimitTerm}
    {one other : TypeSyntax} → Constrains ms home within limits one other → HasKey ms m of one → HasKey ms m of other
constrained_key constrains_no_more has = has
constrained_key (constrains_another h n rest) has = constrained_key rest (narrowed_key n has)

plain_key : {ms : List ModuleTerm} {m : ℕ} {word : Token} {of : _} {limits : List LimitTerm} {syntax : TypeSyntax} →
    PlainDenotes ms m word of syntax → HasKey ms m (Plain word of limits) syntax
plain_key {word = word} {syntax = syntax} (one_word e) = record {
  key = marked syntax nowhere;
  is = word_whole word.text syntax e;
  beside = plain (nowhere_marked syntax);
}
plain_key {syntax = syntax} (denotes_integer h) = record {
  key = marked syntax nowhere;
  is = refl;
  beside = plain (nowhere_marked syntax);
}
plain_key {syntax = syntax} (enumerated h) = record {
  key = marked syntax nowhere;
  is = refl;
  beside = plain (nowhere_marked syntax);
}
plain_key {syntax = syntax} (bit_string h) = record {
  key = marked syntax nowhere;
  is = refl;
  beside = plain (nowhere_marked syntax);
}
plain_key {syntax = syntax} octet_string = record {
  key = marked syntax nowhere;
  is = refl;
  beside = plain (nowhere_marked syntax);
}
plain_key {syntax = syntax} object_identifier = record {
  key = marked syntax nowhere;
  is = refl;
  beside = plain (nowhere_marked syntax);
}
plain_key {syntax = syntax} any = record {
  key = marked syntax nowhere;
  is = refl;
  beside = plain (nowhere_marked syntax);
}

mutual
  pub denoted_key : {ms : List ModuleTerm} {m : ℕ} {of : TypeTerm} {syntax : TypeSyntax} → Denotes ms m of syntax →
      HasKey ms m of syntax
  denoted_key {ms = ms} {m = m} (denotes_tagged {mode = mode} {tag = tag} {syntax = syntax} h d) =
      let has = denoted_key d in
      let explicit = is_explicit (has_implicit_default ms m) mode syntax in record {
        key = TaggedKey tag explicit has.key;
        is = ap (λ s. Tagged tag explicit s) has.is;
        beside = tagged has.beside;
      }
  denoted_key (denotes_sequence h ds) =
      let have = denoted_keys true ds in record {
        key = SequenceKey have.keys;
        is = ap Sequence have.are;
        beside = sequence have.beside;
      }
  denoted_key (denotes_set h ds) =
      let have = denoted_keys true ds in record {
        key = SetKey have.keys;
        is = ap SetType have.are;
        beside = set have.beside;
      }
  denoted_key (denotes_choice ds) =
      let have = denoted_keys false ds in record {
        key = ChoiceKey have.keys;
        is = ap Choice have.are;
        beside = choice have.beside;
      }
  denoted_key (denotes_sequence_of h d c) =
      let has = denoted_key d in constrained_key c record {
        key = SequenceOfKey has.key [];
        is = ap (λ s. SequenceOf s []) has.is;
        beside = sequence_of has.beside;
      }
  denoted_key (denotes_set_of h d c) =
      let has = denoted_key d in constrained_key c record {
        key = SetOfKey has.key [];
        is = ap (λ s. SetOf s []) has.is;
        beside = set_of has.beside;
      }
  denoted_key (denotes_plain h c) = constrained_key c (plain_key h)
  denoted_key (denotes_named e d c) =
      let has = denoted_key d in
      constrained_key c record { key = has.key; is = has.is; beside = named e has.beside }
  denoted_key {ms = ms} {m = m} (denotes_standard {module_name = module_name} {name = name} {unlimited = s} e c) =
      constrained_key c record {
        key = marked s nowhere;
        is = whole_meant ms m module_name name s e;
        beside = standard e (nowhere_marked s);
      }

  denoted_keys : {ms : List ModuleTerm} {m : ℕ} {members : MemberTerms} {parts : TypeParts} (components : Bool) →
      MembersDenote ms m members parts → HaveKeys ms components m members parts
  denoted_keys components no_members = record {
    keys = NoKeys;
    are = refl;
    beside = no_more (λ k path. refl);
  }
  denoted_keys components (member {name = name} {presence = presence} d ds) =
      let has = denoted_key d in
      let have = denoted_keys components ds in record {
        keys = PartKey name.text has.key (may_be_absent presence) (stands_default components presence) have.keys;
        are = λ i. Part name.text (has.is i) (may_be_absent presence) None (have.are i);
        beside = another has.beside refl have.beside;
      }

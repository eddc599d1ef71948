-- BeginningLaws: what a value of a denoted syntax begins with is what one of its type does, and each begins with some
-- tag (X.680, sections 8.4, 25.6, 27.3, 29.3 and 31; X.690, section 8.1.2).
use Rattle.std.proofs.Common.{◌≡◌, ℕ, ℤ, suc, List, [], ◌∷◌, Bool, true, false, Option, Some, codes, refl, sym, ap, ◌∙◌}
use Rattle.std.proofs.Common.{subst, true≢false, ⊎_elim}
use Rattle.std.specs.Prelude.{if◌then◌else◌}
use Rattle.token_grammar.specs.declared.token.Token.{Token}
use Rattle.token_grammar.specs.TokenTests.{is_word_of}
use Rattle.term_values.specs.Beginnings.{first_tags, has_tag, parts_tags}
use Rattle.term_values.specs.Syntaxes.{TypeSyntax, TypeParts}
use Rattle.term_values.specs.UniversalTags.{boolean, integer, bit_string, octet_string, object_identifier, enumerated}
use Rattle.term_values.specs.UniversalTags.{sequence as sequence_tag, set as set_tag}
use Rattle.term_values.specs.declared.tag.Tag.{Tag}
use Rattle.asn1_names.specs.Constraining.{Constrains, Narrows}
use Rattle.asn1_names.specs.Constraining.Constrains.{another, no_more}
use Rattle.asn1_names.specs.Constraining.Narrows.{bits, characters, elements, members as set_members, octets, values}
use Rattle.asn1_names.specs.Constraining.Narrows.{tagged as narrows_tagged}
use Rattle.asn1_names.specs.Containment.{IsMember}
use Rattle.asn1_names.specs.Containment.IsMember.{behind, first}
use Rattle.asn1_names.specs.DenotedSyntax.{Denotes, MembersDenote, PlainDenotes}
use Rattle.asn1_names.specs.DenotedSyntax.Denotes.{choice, named, plain, sequence, sequence_of, set, set_of, standard}
use Rattle.asn1_names.specs.DenotedSyntax.Denotes.{tagged}
use Rattle.asn1_names.specs.DenotedSyntax.MembersDenote.{member, no_members}
use Rattle.asn1_names.specs.DenotedSyntax.PlainDenotes.{any, bit_string as bits_denote, enumerated as items_denote}
use Rattle.asn1_names.specs.DenotedSyntax.PlainDenotes.{integer as integer_denotes, object_identifier as arcs_denote}
use Rattle.asn1_names.specs.DenotedSyntax.PlainDenotes.{octet_string as octets_denote, one_word}
use Rattle.asn1_names.specs.FirstModuleFault.{AreFaultless}
use Rattle.asn1_names.specs.ModuleTerms.{LimitTerm, MemberTerms, ModuleTerm, PlainTerm, PresenceTerm, TypeTerm}
use Rattle.asn1_names.specs.ModuleTerms.MemberTerms.{Member}
use Rattle.asn1_names.specs.ModuleTerms.TypeTerm.{Alternatives, Plain}
use Rattle.asn1_names.specs.Occurrences.{Stands}
use Rattle.asn1_names.specs.TypeTags.{Begins, WordBegins, structure_tag}
use Rattle.asn1_names.specs.TypeTags.Begins.{alternative, named as begins_named, plain as begins_plain, repeated}
use Rattle.asn1_names.specs.TypeTags.Begins.{standard as begins_standard, structure, tagged as begins_tagged}
use Rattle.asn1_names.proofs.PassingLaws.{acyclic}
use Rattle.sound_laws.specs.GivenMeanings.{HaveAlternatives}
use Rattle.sound_laws.proofs.PlaceLaws.{AllStand, alternatives_stand, assigned_stands, named_assigned}
use Rattle.sound_laws.proofs.StandardNames.{reference_standard}
use Rattle.sound_laws.proofs.StandardTags.{standard_clear, word_clear}
use Rattle.sound_laws.proofs.TagLists.{HasSome, in_either, of_either, one_tag, own_tag}

-- a value of the type begins with each of these tags, and there is one
pub record BeginsBy (ms : List ModuleTerm) (m : ℕ) (of : TypeTerm) (tags : Option (List Tag)) : Type 0 where
  pub from : (tag : Tag) → has_tag tags tag ≡ true → Begins ms m of tag
  pub some : HasSome tags

own_begins : {ms : List ModuleTerm} {m : ℕ} {of : TypeTerm} (own : Tag) → Begins ms m of own →
    BeginsBy ms m of (Some (own ∷ []))
own_begins {ms = ms} {m = m} {of = of} own begins = record {
  from = λ tag h. subst (Begins ms m of) (one_tag own tag h) begins;
  some = (own, own_tag own);
}

-- ---- constraints leave the tags

narrowed_tags : {ranges : List (ℤ × ℤ)} {is_size : Bool} {before after : TypeSyntax} →
    Narrows ranges is_size before after → first_tags before ≡ first_tags after
narrowed_tags (values h) = refl
narrowed_tags (bits h) = refl
narrowed_tags (octets h) = refl
narrowed_tags (characters h) = refl
narrowed_tags (elements h) = refl
narrowed_tags (set_members h) = refl
narrowed_tags (narrows_tagged h) = refl

constrained_tags : {ms : List ModuleTerm} {m : ℕ} {of : TypeTerm} {limits : List LimitTerm}
    {before after : TypeSyntax} → Constrains ms m of limits before after → first_tags before ≡ first_tags after
constrained_tags no_more = refl
constrained_tags (another ranges narrows rest) = narrowed_tags narrows ∙ constrained_tags rest

constrained : {ms : List ModuleTerm} {m : ℕ} {of other : TypeTerm} {limits : List LimitTerm}
    {before after : TypeSyntax} → Constrains ms m other limits before after → BeginsBy ms m of (first_tags before) →
    BeginsBy ms m of (first_tags after)
constrained {ms = ms} {m = m} {of = of} c by = subst (BeginsBy ms m of) (constrained_tags c) by

-- ---- types that hold no other, SEQUENCE and SET

plain_begins : {ms : List ModuleTerm} {m : ℕ} {word : Token} {of : PlainTerm} {limits : List LimitTerm}
    {syntax : TypeSyntax} → PlainDenotes ms m word of syntax → BeginsBy ms m (Plain word of limits) (first_tags syntax)
plain_begins {word = word} (one_word {syntax = syntax} e) = record {
  from = λ tag h. begins_plain (subst (λ found. WordBegins found tag) (sym e) h);
  some = (word_clear word.text syntax e).some;
}
plain_begins (integer_denotes names) = own_begins integer (begins_plain refl)
plain_begins (items_denote names) = own_begins enumerated (begins_plain refl)
plain_begins (bits_denote names) = own_begins bit_string (begins_plain refl)
plain_begins octets_denote = own_begins octet_string (begins_plain refl)
plain_begins arcs_denote = own_begins object_identifier (begins_plain refl)
plain_begins any = record { from = λ tag h. begins_plain tt; some = (boolean, refl) }

word_tag : (word : Token) (b : Bool) → is_word_of (codes "SET") word ≡ b →
    (if b then set_tag else sequence_tag) ≡ structure_tag word
word_tag word b e = ap (λ c. if c then set_tag else sequence_tag) (sym e)

-- ---- a denoted syntax

-- one of the alternatives begins with the tag
record OneBegins (ms : List ModuleTerm) (m : ℕ) (members : MemberTerms) (tag : Tag) : Type 0 where
  place : ℕ
  of : TypeTerm
  presence : PresenceTerm
  is : IsMember members place of presence
  begins : Begins ms m of tag

one_behind : {ms : List ModuleTerm} {m : ℕ} {name : Token} {of : TypeTerm} {presence : PresenceTerm}
    {members : MemberTerms} {tag : Tag} → OneBegins ms m members tag →
    OneBegins ms m (Member name of presence members) tag
one_behind one = record {
  place = suc one.place;
  of = one.of;
  presence = one.presence;
  is = behind one.is;
  begins = one.begins;
}

mutual
  pub begun : {ms : List ModuleTerm} {document m : ℕ} {of : TypeTerm} {syntax : TypeSyntax} → AreFaultless ms →
      HaveAlternatives ms → Stands ms document m of → Denotes ms m of syntax → BeginsBy ms m of (first_tags syntax)
  begun faultless have stands (tagged {tag = tag} is d) = own_begins tag (begins_tagged is)
  begun faultless have stands (sequence {word = word} e d) =
      own_begins sequence_tag (structure (word_tag word false e))
  begun faultless have stands (set {word = word} e d) = own_begins set_tag (structure (word_tag word true e))
  begun faultless have stands (choice {members = alternatives} d) = record {
    from = λ tag h. let one = one_begun faultless have (alternatives_stand stands) d tag h in
        alternative one.is one.begins;
    some = some_begun faultless have stands d;
  }
  begun faultless have stands (sequence_of {word = word} e d c) =
      constrained c (own_begins sequence_tag (repeated (word_tag word false e)))
  begun faultless have stands (set_of {word = word} e d c) =
      constrained c (own_begins set_tag (repeated (word_tag word true e)))
  begun faultless have stands (plain p c) = constrained c (plain_begins p)
  begun {ms = ms} {m = m} faultless have stands
      (named {v = v} {i = i} {module_name = module_name} {name = name} {of = of} e d c) =
      let below = begun faultless have (assigned_stands (named_assigned ms m v i module_name name of e).1) d in
      constrained c (record {
        from = λ tag h. begins_named e (acyclic ms v i faultless) (below.from tag h);
        some = below.some;
      })
  begun {ms = ms} {m = m} faultless have stands
      (standard {module_name = module_name} {name = name} {unlimited = syntax} e c) =
      let known = reference_standard ms m module_name name syntax e in
      constrained c (record {
        from = λ tag h. begins_standard e h;
        some = (standard_clear known.0 syntax known.1).some;
      })

  one_begun : {ms : List ModuleTerm} {document m : ℕ} {members : MemberTerms} {parts : TypeParts} → AreFaultless ms →
      HaveAlternatives ms → AllStand ms document m members → MembersDenote ms m members parts → (tag : Tag) →
      has_tag (parts_tags parts) tag ≡ true → OneBegins ms m members tag
  one_begun faultless have stand no_members tag h = absurd (true≢false (sym h))
  one_begun faultless have stand
      (member {of = of} {presence = presence} {syntax = syntax} {parts = parts} d rest) tag h =
      ⊎_elim
      (λ own. record {
        place = 0;
        of = of;
        presence = presence;
        is = first;
        begins = (begun faultless have (stand 0 of presence first) d).from tag own;
      })
      (λ others. one_behind
      (one_begun faultless have (λ k its its_presence is. stand (suc k) its its_presence (behind is)) rest tag others))
      (of_either (first_tags syntax) (parts_tags parts) tag h)

  some_begun : {ms : List ModuleTerm} {document m : ℕ} {word : Token} {members : MemberTerms} {parts : TypeParts}
      {limits : List LimitTerm} → AreFaultless ms → HaveAlternatives ms →
      Stands ms document m (Alternatives word members limits) → MembersDenote ms m members parts →
      HasSome (parts_tags parts)
  some_begun {document = document} {m = m} {word = word} {limits = limits} faultless have stands no_members =
      absurd (have document m word limits stands)
  some_begun faultless have stands (member {of = of} {presence = presence} {syntax = syntax} {parts = parts} d rest) =
      let own = begun faultless have (alternatives_stand stands 0 of presence first) d in
      (own.some.0, in_either (first_tags syntax) (parts_tags parts) own.some.0 own.some.1)

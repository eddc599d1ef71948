-- BesideLaws: a key that goes with a type is marked exactly where DEFAULT stands in it, and what stands within the type
-- goes with what stands within the key.
use Rattle.std.proofs.Common.{◌≡◌, ◌∷◌, [], ◌∙◌, ℕ, suc, zero, List, Bool, true, false, Option, None, Some, ap, option_map, refl, slice_get, sym, true≢false}
use Rattle.std.proofs.Math.Path.{subst}
use Rattle.token_grammar.specs.Form.{Tree}
use Rattle.term_values.specs.PartsView.{parts_listed}
use Rattle.term_values.specs.Syntaxes.{Bounds}
use Rattle.term_values.specs.declared.syntax.Part.{Part as PartOfSyntax}
use Rattle.term_values.specs.declared.tag.Tag.{Tag}
use Rattle.asn1_names.specs.Containment.{IsMember}
use Rattle.asn1_names.specs.Containment.IsMember.{first, behind}
use Rattle.asn1_names.specs.DefaultTexts.{HasDefault}
use Rattle.asn1_names.specs.DefaultTexts.HasDefault.{alternative, component, element, here, named as default_named}
use Rattle.asn1_names.specs.DefaultTexts.HasDefault.{tagged as default_tagged}
use Rattle.asn1_names.specs.ModuleTerms.{MemberTerms, ModuleTerm, PresenceTerm, TypeTerm}
use Rattle.asn1_names.specs.ModuleTerms.MemberTerms.{Member}
use Rattle.asn1_names.specs.ModuleTerms.PresenceTerm.{Needed, OptionalTerm, DefaultTerm}
use Rattle.asn1_names.specs.ModuleTerms.TypeTerm.{Structure, Alternatives}
use Rattle.asn1_names.specs.TypeWalks.{IsNoName}
use Rattle.asn1_names.proofs.OneNumber.{at_type, not_both, same_types}
use Rattle.key_numbers.specs.TypeKeys.{TypeKey, PartKeys, has_mark, has_mark_at}
use Rattle.key_numbers.specs.TypeKeys.TypeKey.{BooleanKey, IntegerKey, EnumeratedKey, BitStringKey, OctetStringKey}
use Rattle.key_numbers.specs.TypeKeys.TypeKey.{NullKey, IdentifierKey, TextKey, TimeKey, SequenceKey, SetKey}
use Rattle.key_numbers.specs.TypeKeys.TypeKey.{SequenceOfKey, SetOfKey, ChoiceKey, TaggedKey, AnyKey, FilterKey}
use Rattle.key_numbers.specs.TypeKeys.PartKeys.{PartKey}
use Rattle.type_numbers.specs.KeysBeside.{AreBeside, AreBesideAt, AreUnmarked, IsBeside, IsBesideAt, IsBesideEnd, IsUnmarked}
use Rattle.type_numbers.specs.KeysBeside.IsBeside.{tagged, sequence, set, choice, sequence_of, set_of, plain, named}
use Rattle.type_numbers.specs.KeysBeside.IsBeside.{standard}
use Rattle.type_numbers.specs.KeysBeside.AreBeside.{no_more, another}
use Rattle.type_numbers.specs.MarkedKeys.{marked, marked_parts}
use Rattle.type_numbers.specs.PlacedTerms.{are_components, beneath_at, default_at, member_at, members_of, nth_default}
use Rattle.type_numbers.specs.PlacedTerms.{nth_member, stands_default}

-- ---- no mark and no DEFAULT stands at the whole

pub nowhere_whole : (key : TypeKey) → has_mark key [] ≡ false
nowhere_whole (TaggedKey tag explicit of) = nowhere_whole of
nowhere_whole (SequenceOfKey of bounds) = nowhere_whole of
nowhere_whole (SetOfKey of bounds) = nowhere_whole of
nowhere_whole BooleanKey = refl
nowhere_whole (IntegerKey names bounds) = refl
nowhere_whole (EnumeratedKey names) = refl
nowhere_whole (BitStringKey names bounds) = refl
nowhere_whole (OctetStringKey bounds) = refl
nowhere_whole NullKey = refl
nowhere_whole IdentifierKey = refl
nowhere_whole (TextKey charset bounds) = refl
nowhere_whole TimeKey = refl
nowhere_whole (SequenceKey keys) = refl
nowhere_whole (SetKey keys) = refl
nowhere_whole (ChoiceKey keys) = refl
nowhere_whole AnyKey = refl
nowhere_whole FilterKey = refl

led : (path : List ℕ) → Bool
led [] = false
led (k ∷ path) = true

some_path : {ms : List ModuleTerm} {m v : ℕ} {of : TypeTerm} {path : List ℕ} {text : Tree} →
    HasDefault ms m of path v text → led path ≡ true
unfolding led
some_path (here there) = refl
some_path (component there h) = refl
some_path (alternative there h) = refl
some_path (default_tagged h) = some_path h
some_path (element h) = some_path h
some_path (default_named e h) = some_path h

none_whole : {ms : List ModuleTerm} {m v : ℕ} {of : TypeTerm} {text : Tree} → HasDefault ms m of [] v text → ⊥
unfolding led
none_whole h = absurd (true≢false (sym (some_path h)))

-- ---- from DEFAULT to the mark

here_marked : {ms : List ModuleTerm} {m k : ℕ} {members : MemberTerms} {keys : PartKeys} {of : TypeTerm} {text : Tree} →
    AreBeside ms true m members keys → IsMember members k of (DefaultTerm text) → has_mark_at keys k [] ≡ true
here_marked (no_more u) there = elim there [ ]
here_marked (another b e bs) first = e
here_marked (another b e bs) (behind there) = here_marked bs there

mutual
  pub default_marked : {ms : List ModuleTerm} {m v : ℕ} {of : TypeTerm} {key : TypeKey} {path : List ℕ} {text : Tree} →
      IsBeside ms m of key → HasDefault ms m of path v text → has_mark key path ≡ true
  default_marked (tagged b) (default_tagged h) = default_marked b h
  default_marked (sequence bs) (here there) = here_marked bs there
  default_marked (sequence bs) (component there h) = member_marked bs there h
  default_marked (set bs) (here there) = here_marked bs there
  default_marked (set bs) (component there h) = member_marked bs there h
  default_marked (choice bs) (alternative there h) = member_marked bs there h
  default_marked (plain u) h = elim h [ ]
  default_marked (sequence_of b) (element h) = default_marked b h
  default_marked (set_of b) (element h) = default_marked b h
  default_marked {ms = ms} {path = path} {text = text} (named {v = v} {i = i} {of = of} e b)
      (default_named {v = w} {w = home} {i = j} {of = its} f h) =
      default_marked b (at_type (λ x y. HasDefault ms x y path home text) v w of its (same_types _ v i w j of its e f) h)
  default_marked (standard {syntax = syntax} e u) (default_named {v = v} {i = i} {of = of} f h) =
      absurd (not_both _ v i of syntax f e)

  member_marked : {ms : List ModuleTerm} {components : Bool} {m v k : ℕ} {members : MemberTerms} {keys : PartKeys}
      {of : TypeTerm} {presence : PresenceTerm} {path : List ℕ} {text : Tree} → AreBeside ms components m members keys →
      IsMember members k of presence → HasDefault ms m of path v text → has_mark_at keys k path ≡ true
  member_marked (no_more u) there h = elim there [ ]
  member_marked {path = []} (another b e bs) first h = absurd (none_whole h)
  member_marked {path = j ∷ path} (another b e bs) first h = default_marked b h
  member_marked (another b e bs) (behind there) h = member_marked bs there h

-- ---- from the mark to DEFAULT

-- the text of DEFAULT at a path
pub record HasOne (ms : List ModuleTerm) (m : ℕ) (of : TypeTerm) (path : List ℕ) : Type 0 where
  pub written_in : ℕ
  pub text : Tree
  pub stands : HasDefault ms m of path written_in text

-- what a mark says of a member: DEFAULT of its own, or within
record HasAtMember (ms : List ModuleTerm) (components : Bool) (m : ℕ) (members : MemberTerms) (k : ℕ)
    (path : List ℕ) : Type 0 where
  of : TypeTerm
  presence : PresenceTerm
  there : IsMember members k of presence
  own : path ≡ [] → stands_default components presence ≡ true
  within : led path ≡ true → HasOne ms m of path

own_text : (presence : PresenceTerm) → stands_default true presence ≡ true →
    (text : Tree) × (presence ≡ DefaultTerm text)
own_text Needed h = absurd (true≢false (sym h))
own_text OptionalTerm h = absurd (true≢false (sym h))
own_text (DefaultTerm text) h = (text, refl)

no_own : (presence : PresenceTerm) → stands_default false presence ≡ true → ⊥
no_own Needed h = absurd (true≢false (sym h))
no_own OptionalTerm h = absurd (true≢false (sym h))
no_own (DefaultTerm text) h = absurd (true≢false (sym h))

in_structure : {ms : List ModuleTerm} {m k : ℕ} {word : _} {members : MemberTerms} {limits : _} {path : List ℕ} →
    HasAtMember ms true m members k path → HasOne ms m (Structure word members limits) (k ∷ path)
unfolding led
in_structure {ms = ms} {m = m} {k = k} {word = word} {members = members} {limits = limits} {path = []} at =
    let text = own_text at.presence (at.own refl) in record {
      written_in = m;
      text = text.0;
      stands = here (subst (λ p. IsMember members k at.of p) text.1 at.there);
    }
in_structure {path = j ∷ path} at =
    let one = at.within refl in record {
      written_in = one.written_in;
      text = one.text;
      stands = component at.there one.stands;
    }

in_alternatives : {ms : List ModuleTerm} {m k : ℕ} {word : _} {members : MemberTerms} {limits : _} {path : List ℕ} →
    HasAtMember ms false m members k path → HasOne ms m (Alternatives word members limits) (k ∷ path)
unfolding led
in_alternatives {path = []} at = absurd (no_own at.presence (at.own refl))
in_alternatives {path = j ∷ path} at =
    let one = at.within refl in record {
      written_in = one.written_in;
      text = one.text;
      stands = alternative at.there one.stands;
    }

further : {ms : List ModuleTerm} {components : Bool} {m k : ℕ} {members : MemberTerms} {path : List ℕ} {name : _}
    {of : TypeTerm} {presence : PresenceTerm} → HasAtMember ms components m members k path →
    HasAtMember ms components m (Member name of presence members) (suc k) path
further at = record {
  of = at.of;
  presence = at.presence;
  there = behind at.there;
  own = at.own;
  within = at.within;
}

not_marked : (b : Bool) → b ≡ false → b ≡ true → ⊥
not_marked b h g = absurd (true≢false (sym g ∙ h))

mutual
  unfolding led

  pub marked_default : {ms : List ModuleTerm} {m : ℕ} {of : TypeTerm} {key : TypeKey} → IsBeside ms m of key →
      (path : List ℕ) → has_mark key path ≡ true → HasOne ms m of path
  marked_default (tagged b) path h =
      let one = marked_default b path h in
      record { written_in = one.written_in; text = one.text; stands = default_tagged one.stands }
  marked_default (sequence bs) [] h = absurd (true≢false (sym h))
  marked_default (sequence bs) (k ∷ path) h = in_structure (marked_member bs k path h)
  marked_default (set bs) [] h = absurd (true≢false (sym h))
  marked_default (set bs) (k ∷ path) h = in_structure (marked_member bs k path h)
  marked_default (choice bs) [] h = absurd (true≢false (sym h))
  marked_default (choice bs) (k ∷ path) h = in_alternatives (marked_member bs k path h)
  marked_default (sequence_of b) path h =
      let one = marked_default b path h in
      record { written_in = one.written_in; text = one.text; stands = element one.stands }
  marked_default (set_of b) path h =
      let one = marked_default b path h in
      record { written_in = one.written_in; text = one.text; stands = element one.stands }
  marked_default (plain u) path h = absurd (not_marked _ (u path) h)
  marked_default (named e b) path h =
      let one = marked_default b path h in
      record { written_in = one.written_in; text = one.text; stands = default_named e one.stands }
  marked_default (standard e u) path h = absurd (not_marked _ (u path) h)

  marked_member : {ms : List ModuleTerm} {components : Bool} {m : ℕ} {members : MemberTerms} {keys : PartKeys} →
      AreBeside ms components m members keys → (k : ℕ) (path : List ℕ) → has_mark_at keys k path ≡ true →
      HasAtMember ms components m members k path
  marked_member (no_more u) k path h = absurd (not_marked _ (u k path) h)
  marked_member (another {of = of} {presence = presence} b e bs) zero [] h = record {
    of = of;
    presence = presence;
    there = first;
    own = λ empty. sym e ∙ h;
    within = λ l. absurd (true≢false (sym l));
  }
  marked_member (another {of = of} {presence = presence} b e bs) zero (j ∷ path) h = record {
    of = of;
    presence = presence;
    there = first;
    own = λ empty. absurd (true≢false (ap led empty));
    within = λ l. marked_default b (j ∷ path) h;
  }
  marked_member (another b e bs) (suc k) path h = further (marked_member bs k path h)

-- ---- what stands within

under_tag : {ms : List ModuleTerm} {m : ℕ} {of : TypeTerm} {tag : Tag} {explicit : Bool} {key : TypeKey} →
    IsBeside ms m of (TaggedKey tag explicit key) → IsNoName of → IsBesideAt ms (beneath_at (Some (m, of))) key
under_tag (tagged b) nameless = b
under_tag (plain u) nameless = u
under_tag (named e b) nameless = absurd nameless
under_tag (standard e u) nameless = absurd nameless

pub beside_tagged : (ms : List ModuleTerm) (text : Option (ℕ × TypeTerm)) (tag : Tag) (explicit : Bool)
    (key : TypeKey) → IsBesideEnd ms text (TaggedKey tag explicit key) → IsBesideAt ms (beneath_at text) key
beside_tagged ms None tag explicit key b = b
beside_tagged ms (Some x) tag explicit key b = under_tag b.1 b.0

in_list : {ms : List ModuleTerm} {m : ℕ} {of : TypeTerm} {key : TypeKey} {bounds : Bounds} →
    IsBeside ms m of (SequenceOfKey key bounds) → IsNoName of → IsBesideAt ms (beneath_at (Some (m, of))) key
in_list (sequence_of b) nameless = b
in_list (plain u) nameless = u
in_list (named e b) nameless = absurd nameless
in_list (standard e u) nameless = absurd nameless

pub beside_list : (ms : List ModuleTerm) (text : Option (ℕ × TypeTerm)) (key : TypeKey) (bounds : Bounds) →
    IsBesideEnd ms text (SequenceOfKey key bounds) → IsBesideAt ms (beneath_at text) key
beside_list ms None key bounds b = b
beside_list ms (Some x) key bounds b = in_list b.1 b.0

in_set : {ms : List ModuleTerm} {m : ℕ} {of : TypeTerm} {key : TypeKey} {bounds : Bounds} →
    IsBeside ms m of (SetOfKey key bounds) → IsNoName of → IsBesideAt ms (beneath_at (Some (m, of))) key
in_set (set_of b) nameless = b
in_set (plain u) nameless = u
in_set (named e b) nameless = absurd nameless
in_set (standard e u) nameless = absurd nameless

pub beside_set : (ms : List ModuleTerm) (text : Option (ℕ × TypeTerm)) (key : TypeKey) (bounds : Bounds) →
    IsBesideEnd ms text (SetOfKey key bounds) → IsBesideAt ms (beneath_at text) key
beside_set ms None key bounds b = b
beside_set ms (Some x) key bounds b = in_set b.1 b.0

of_sequence : {ms : List ModuleTerm} {m : ℕ} {of : TypeTerm} {keys : PartKeys} →
    IsBeside ms m of (SequenceKey keys) → IsNoName of → AreBesideAt ms (Some (m, of)) keys
of_sequence (sequence bs) nameless = bs
of_sequence (plain u) nameless = no_more (λ k path. u (k ∷ path))
of_sequence (named e b) nameless = absurd nameless
of_sequence (standard e u) nameless = absurd nameless

pub beside_sequence : (ms : List ModuleTerm) (text : Option (ℕ × TypeTerm)) (keys : PartKeys) →
    IsBesideEnd ms text (SequenceKey keys) → AreBesideAt ms text keys
beside_sequence ms None keys b = λ k path. b (k ∷ path)
beside_sequence ms (Some x) keys b = of_sequence b.1 b.0

of_set : {ms : List ModuleTerm} {m : ℕ} {of : TypeTerm} {keys : PartKeys} →
    IsBeside ms m of (SetKey keys) → IsNoName of → AreBesideAt ms (Some (m, of)) keys
of_set (set bs) nameless = bs
of_set (plain u) nameless = no_more (λ k path. u (k ∷ path))
of_set (named e b) nameless = absurd nameless
of_set (standard e u) nameless = absurd nameless

pub beside_members : (ms : List ModuleTerm) (text : Option (ℕ × TypeTerm)) (keys : PartKeys) →
    IsBesideEnd ms text (SetKey keys) → AreBesideAt ms text keys
beside_members ms None keys b = λ k path. b (k ∷ path)
beside_members ms (Some x) keys b = of_set b.1 b.0

of_choice : {ms : List ModuleTerm} {m : ℕ} {of : TypeTerm} {keys : PartKeys} →
    IsBeside ms m of (ChoiceKey keys) → IsNoName of → AreBesideAt ms (Some (m, of)) keys
of_choice (choice bs) nameless = bs
of_choice (plain u) nameless = no_more (λ k path. u (k ∷ path))
of_choice (named e b) nameless = absurd nameless
of_choice (standard e u) nameless = absurd nameless

pub beside_choice : (ms : List ModuleTerm) (text : Option (ℕ × TypeTerm)) (keys : PartKeys) →
    IsBesideEnd ms text (ChoiceKey keys) → AreBesideAt ms text keys
beside_choice ms None keys b = λ k path. b (k ∷ path)
beside_choice ms (Some x) keys b = of_choice b.1 b.0

-- ---- a part at its place

-- a part's key goes with the text of the member at its place, and is marked as that
pub record IsMemberBeside (ms : List ModuleTerm) (text : Option (ℕ × TypeTerm)) (k : ℕ) (key : TypeKey)
    (mark : Bool) : Type 0 where
  pub beside : IsBesideAt ms (member_at text k) key
  pub marked : mark ≡ default_at text k

some_part : (x y : PartOfSyntax) → Some x ≡ Some y → x ≡ y
some_part x y h = cc

no_part : (x : PartOfSyntax) → None ≡ Some x → ⊥
no_part x h = absurd (cc)

unmarked_first : (name : List ℕ) (key : TypeKey) (optional default : Bool) (rest : PartKeys) →
    AreUnmarked (PartKey name key optional default rest) → IsUnmarked key
unmarked_first name key optional default rest h [] = nowhere_whole key
unmarked_first name key optional default rest h (j ∷ path) = h 0 (j ∷ path)

unmarked_member : (items : List PartOfSyntax) (f : ℕ → List ℕ → Bool) (k : ℕ) (x : PartOfSyntax) →
    slice_get items k ≡ Some x → AreUnmarked (marked_parts (parts_listed items) f) →
    IsUnmarked (marked x.syntax (λ path. f k path)) × (f k [] ≡ false)
unmarked_member [] f k x at u = absurd (no_part x at)
unmarked_member (y ∷ items) f zero x at u =
    subst (λ z. IsUnmarked (marked z.syntax (λ path. f 0 path)) × (f 0 [] ≡ false)) (some_part y x at) (
      unmarked_first y.name (marked y.syntax (λ path. f 0 path)) y.optional (f 0 [])
          (marked_parts (parts_listed items) (λ j. f (suc j))) u,
      u 0 [],
    )
unmarked_member (y ∷ items) f (suc k) x at u =
    unmarked_member items (λ j. f (suc j)) k x at (λ j path. u (suc j) path)

member_beside : (ms : List ModuleTerm) (components : Bool) (m : ℕ) (rows : MemberTerms) (items : List PartOfSyntax)
    (f : ℕ → List ℕ → Bool) (k : ℕ) (x : PartOfSyntax) → slice_get items k ≡ Some x →
    AreBeside ms components m rows (marked_parts (parts_listed items) f) →
    IsBesideAt ms (option_map (λ of. (m, of)) (nth_member rows k)) (marked x.syntax (λ path. f k path)) ×
    (f k [] ≡ nth_default components rows k)
member_beside ms components m rows [] f k x at b = absurd (no_part x at)
member_beside ms components m rows (y ∷ items) f k x at (no_more u) = unmarked_member (y ∷ items) f k x at u
member_beside ms components m rows (y ∷ items) f zero x at (another {of = of} {presence = presence} b e bs) =
    subst (λ z. IsBeside ms m of (marked z.syntax (λ path. f 0 path)) × (f 0 [] ≡ stands_default components presence))
    (some_part y x at) (b, e)
member_beside ms components m rows (y ∷ items) f (suc k) x at (another {rest = rest} b e bs) =
    member_beside ms components m rest items (λ j. f (suc j)) k x at bs

pub part_beside : (ms : List ModuleTerm) (text : Option (ℕ × TypeTerm)) (items : List PartOfSyntax)
    (f : ℕ → List ℕ → Bool) (k : ℕ) (x : PartOfSyntax) → slice_get items k ≡ Some x →
    AreBesideAt ms text (marked_parts (parts_listed items) f) →
    IsMemberBeside ms text k (marked x.syntax (λ path. f k path)) (f k [])
part_beside ms None items f k x at u =
    let both = unmarked_member items f k x at u in record { beside = both.0; marked = both.1 }
part_beside ms (Some y) items f k x at b =
    let both = member_beside ms (are_components y.1) y.0 (members_of y.1) items f k x at b in
    record { beside = both.0; marked = both.1 }

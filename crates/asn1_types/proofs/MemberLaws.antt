-- MemberLaws: components and alternatives denote the parts that are built of them, one after the other.
use Rattle.std.proofs.Common.{◌≡◌, ◌≤◌, ◌<◌, ◌+◌, ℕ, List, [], ◌∷◌, ◌++◌, Bool, Option, None, length, map, take, refl}
use Rattle.std.proofs.Common.{ap, arith, get_or, sym, ◌∙◌}
use Rattle.std.proofs.Math.Path.{subst}
use Rattle.std.proofs.lemmas.List.{take_all}
use Rattle.token_grammar.specs.declared.token.Token.{Token}
use Rattle.term_values.specs.PartsView.{parts_listed}
use Rattle.term_values.specs.Syntaxes.{TypeParts, TypeSyntax}
use Rattle.term_values.specs.Syntaxes.TypeParts.{NoParts, Part}
use Rattle.term_values.specs.Typed.{TypedValue}
use Rattle.term_values.specs.declared.syntax.Part.{Part as PartOfSyntax}
use Rattle.asn1_names.specs.DenotedSyntax.{Denotes, MembersDenote}
use Rattle.asn1_names.specs.DenotedSyntax.MembersDenote.{member, no_members}
use Rattle.asn1_names.specs.ModuleTerms.{MemberTerms, ModuleTerm, PresenceTerm, TypeTerm}
use Rattle.asn1_names.specs.ModuleTerms.MemberTerms.{Member, NoMembers}
use Rattle.asn1_names.specs.TagClashes.{may_be_absent}
use Rattle.asn1_names.proofs.NumberLaws.{map_more}
use Rattle.asn1_types.specs.BuiltSyntaxes.{IsPart}
use Rattle.asn1_types.specs.MeasuredTypes.{AreMeasured, IsMeasured, OneMember, members_listed}
use Rattle.asn1_types.proofs.ConstrainingLaws.{in_map}
use Rattle.asn1_types.proofs.CountingLaws.{counted_parts, parts_at_least}

-- ---- one more member, and one more part

members_then : MemberTerms → Token → TypeTerm → PresenceTerm → MemberTerms
members_then NoMembers name of presence = Member name of presence NoMembers
members_then (Member first own its rest) name of presence = Member first own its (members_then rest name of presence)

parts_then : TypeParts → List ℕ → TypeSyntax → Bool → Option TypedValue → TypeParts
parts_then NoParts name syntax optional default = Part name syntax optional default NoParts
parts_then (Part first own its value rest) name syntax optional default =
    Part first own its value (parts_then rest name syntax optional default)

members_push : (xs : List OneMember) (x : OneMember) →
    members_then (members_listed xs) x.name x.of x.presence ≡ members_listed (xs ++ x ∷ [])
unfolding members_then
members_push [] x = refl
members_push (y ∷ xs) x = ap (Member y.name y.of y.presence) (members_push xs x)

parts_push : (ps : List PartOfSyntax) (p : PartOfSyntax) →
    parts_then (parts_listed ps) p.name p.syntax p.optional p.default ≡ parts_listed (ps ++ p ∷ [])
unfolding parts_then
parts_push [] p = refl
parts_push (q ∷ ps) p = ap (Part q.name q.syntax q.optional q.default) (parts_push ps p)

denote_more : {ms : List ModuleTerm} {m : ℕ} {members : MemberTerms} {parts : TypeParts} (name : Token) (of : TypeTerm)
    (presence : PresenceTerm) (syntax : TypeSyntax) → MembersDenote ms m members parts → Denotes ms m of syntax →
    MembersDenote ms m (members_then members name of presence)
    (parts_then parts name.text syntax (may_be_absent presence) None)
unfolding members_then parts_then
denote_more name of presence syntax no_members d = member d no_members
denote_more name of presence syntax (member e rest) d = member e (denote_more name of presence syntax rest d)

one_more : (ms : List ModuleTerm) (m : ℕ) (xs : List OneMember) (ps : List PartOfSyntax) (x : OneMember)
    (p : PartOfSyntax) (syntax : TypeSyntax) → MembersDenote ms m (members_listed xs) (parts_listed ps) →
    Denotes ms m x.of syntax → IsPart p x.name.text syntax (may_be_absent x.presence) →
    MembersDenote ms m (members_listed (xs ++ x ∷ [])) (parts_listed (ps ++ p ∷ []))
one_more ms m xs ps x p syntax so_far d is =
    let part : parts_then (parts_listed ps) x.name.text syntax (may_be_absent x.presence) None ≡
    parts_listed (ps ++ p ∷ []) =
    (λ i. parts_then (parts_listed ps) (sym is.called i) (sym is.of i) (sym is.may_miss i) (sym is.no_default i)) ∙
    parts_push ps p in
    subst (λ t. MembersDenote ms m t (parts_listed (ps ++ p ∷ []))) (members_push xs x)
    (subst (λ t. MembersDenote ms m (members_then (members_listed xs) x.name x.of x.presence) t) part
    (denote_more x.name x.of x.presence syntax so_far d))

-- ---- a loop over members

pub members_none : {ms : List ModuleTerm} {m : ℕ} (items : List PartOfSyntax) → items ≡ [] →
    MembersDenote ms m NoMembers (parts_listed items)
members_none {ms = ms} {m = m} items none =
    subst (λ ps. MembersDenote ms m NoMembers (parts_listed ps)) (sym none) no_members

pub members_step : {X : Type 0} (ms : List ModuleTerm) (m most : ℕ) (f : X → OneMember) (xs : List X) (i : ℕ) (x : X)
    (p : PartOfSyntax) (syntax : TypeSyntax) (before after : List PartOfSyntax) (optional : Bool) → i < length xs →
    x ≡ get_or xs i x → IsPart p (f x).name.text syntax optional → optional ≡ may_be_absent (f x).presence →
    after ≡ before ++ p ∷ [] → (IsMeasured ms m (f x).of most → Denotes ms m (f x).of syntax) →
    (AreMeasured ms m (map f xs) most →
    MembersDenote ms m (members_listed (map f (take i xs))) (parts_listed before)) →
    AreMeasured ms m (map f xs) most →
    MembersDenote ms m (members_listed (map f (take (i + 1) xs))) (parts_listed after)
members_step ms m most f xs i x p syntax before after optional within is part may pushed denoted rest all =
    subst (λ ps. MembersDenote ms m (members_listed (map f (take (i + 1) xs))) (parts_listed ps)) (sym pushed)
    (subst (λ ys. MembersDenote ms m (members_listed ys) (parts_listed (before ++ p ∷ [])))
    (sym (map_more f xs i x within is))
    (one_more ms m (map f (take i xs)) before (f x) p syntax (rest all)
    (denoted (all.each (f x) (in_map f xs i x within is)))
    (subst (λ b. IsPart p (f x).name.text syntax b) may part)))

pub members_end : {X : Type 0} (ms : List ModuleTerm) (m most : ℕ) (f : X → OneMember) (xs : List X) (i : ℕ)
    (items : List PartOfSyntax) (parts : TypeParts) → length xs ≤ i →
    (AreMeasured ms m (map f xs) most →
    MembersDenote ms m (members_listed (map f (take i xs))) (parts_listed items)) →
    (length items < 4294967296 → parts ≡ parts_listed items) → AreMeasured ms m (map f xs) most →
    MembersDenote ms m (members_listed (map f xs)) parts
members_end ms m most f xs i items parts past told kept all =
    let denoted : MembersDenote ms m (members_listed (map f xs)) (parts_listed items) =
    subst (λ ys. MembersDenote ms m (members_listed (map f ys)) (parts_listed items)) (take_all i xs past) (told all) in
    let nodes = counted_parts all.faultless all.have denoted in
    let each = parts_at_least items in
    subst (λ ps. MembersDenote ms m (members_listed (map f xs)) ps)
    (sym (kept (omega (arith, nodes, each, all.few)))) denoted

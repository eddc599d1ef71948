-- The identifier that is read, and the one that a tree denotes.
use Rattle.std.proofs.Common.{◌≡◌, ℕ, ℤ, pos, List, [], true, false, Some, refl, sym, ap, subst}
use Rattle.std.proofs.Common.{◌∙◌, ⊎_elim}
use Rattle.std.proofs.lemmas.Bool.{and_right, cases_Bool, ne_eqb}
use Rattle.std.specs.Prelude.{◌==◌, codes, IfSome, option_map}
use Rattle.term_values.proofs.IntegerLaws.{whole_read}
use Rattle.term_values.proofs.OidLaws.{oid_read, oid_spelt}
use Rattle.term_values.specs.CmipTypes.{implicit, number, one}
use Rattle.term_values.specs.Denotes.{Denotes, PickDenotes}
use Rattle.term_values.specs.FilterTrees.{is_context}
use Rattle.term_values.specs.Octets.{integer_contents, integer_in}
use Rattle.term_values.specs.Oid.{oid_contents, oid_in}
use Rattle.term_values.specs.SpellingLaws.{AreOctets}
use Rattle.term_values.specs.Syntaxes.{TypeParts}
use Rattle.term_values.specs.Syntaxes.TypeParts.{NoParts}
use Rattle.term_values.specs.Syntaxes.TypeSyntax.{Choice, ObjectIdentifier}
use Rattle.term_values.specs.Tag.{context}
use Rattle.term_values.specs.Tree.{TreeValue}
use Rattle.term_values.specs.Tree.TreeValue.{Primitive, Constructed}
use Rattle.term_values.specs.Typed.{TypedValue}
use Rattle.term_values.specs.Typed.TypedValue.{Identifier, Int, Null, Pick}
use Rattle.term_values.specs.declared.tag.Tag.{Tag}
use Rattle.typed_laws.proofs.Choosing.{same_itself, same_tag}
use Rattle.typed_laws.proofs.LeavesTold.{whole_of}
use Rattle.typed_laws.specs.TreeOctets.{HasOctets}
use Rattle.term_model.specs.declared.request.IdRef.TheVariants.{Global, Local}
use Rattle.term_model.specs.Assertions.{IsIdRef, id_in}
use Rattle.filter_laws.specs.DenotingLaws.{DenotedIdIsRead, IdIsDenoted}
use Rattle.filter_laws.proofs.Options.{if_found, there}

global_told : (global local : ℕ) (tag : Tag) (contents : List ℕ) → context global ≡ tag
    → IfSome (option_map Global (oid_in contents)) (IsIdRef global local (Primitive tag contents))
global_told global local tag contents same =
    if_found (IsIdRef global local (Primitive tag contents)) Global (oid_in contents) (λ arcs found.
    let p = oid_spelt contents arcs found in
    let tag_is = sym same in
    let contents_are = sym p.2 in
    (0, Identifier arcs, (arcs, ((λ i. Primitive (tag_is i) (contents_are i)), p.0, p.1), refl), refl))

local_told : (global local : ℕ) (tag : Tag) (contents : List ℕ) → AreOctets contents → context local ≡ tag
    → IfSome (option_map Local (integer_in contents)) (IsIdRef global local (Primitive tag contents))
local_told global local tag contents octets same =
    if_found (IsIdRef global local (Primitive tag contents)) Local (integer_in contents) (λ n found.
    let w = whole_of contents n octets found in
    let tag_is = sym same in
    let contents_are = w.0 in
    (1, Int n, (n, ((λ i. Primitive (tag_is i) (contents_are i)), w.1), refl, refl), refl))

pub id_told : (global local : ℕ) (tree : TreeValue) → HasOctets tree
    → IfSome (id_in global local tree) (IsIdRef global local tree)
id_told global local (Constructed tag inside) octets = tt
id_told global local (Primitive tag contents) octets =
    ⊎_elim
    (λ (e : is_context global tag ≡ true).
    rw e (global_told global local tag contents (same_tag (context global) tag e)))
    (λ (e : is_context global tag ≡ false).
    rw e (⊎_elim
    (λ (f : is_context local tag ≡ true).
    rw f (local_told global local tag contents octets (same_tag (context local) tag f)))
    (λ (f : is_context local tag ≡ false). rw f tt)
    (cases_Bool (is_context local tag))))
    (cases_Bool (is_context global tag))

pub id_is_denoted : IdIsDenoted
id_is_denoted global local tree id octets is =
    there (IsIdRef global local tree) (id_in global local tree) id (id_told global local tree octets) is

-- ---- what is denoted is read

abbrev pick_back : TypedValue → ℕ × TypedValue
pick_back (Pick k v) = (k, v)
pick_back _ = (0, Null)

picked_back : (parts : TypeParts) (x : TreeValue) (k : ℕ) (v : TypedValue) → Denotes (Choice parts) x (Pick k v)
    → PickDenotes parts k x v
picked_back parts x k v d =
    subst (λ (p : ℕ × TypedValue). PickDenotes parts p.0 x p.1) (sym (ap pick_back d.3)) d.2

abbrev arcs_back : TypedValue → List ℕ
arcs_back (Identifier arcs) = arcs
arcs_back _ = []

abbrev number_back : TypedValue → ℤ
number_back (Int n) = n
number_back _ = pos 0

-- the alternatives of the CHOICE of the two forms
abbrev parts_of : ℕ → ℕ → TypeParts
parts_of global local =
    one (codes "globalForm") (implicit global ObjectIdentifier)
    (one (codes "localForm") (implicit local number) NoParts)

global_read : (global local : ℕ) (arcs : List ℕ) → oid_in (oid_contents arcs) ≡ Some arcs
    → id_in global local (Primitive (context global) (oid_contents arcs)) ≡ Some (Global arcs)
global_read global local arcs is = rw (same_itself (context global)) (ap (option_map Global) is)

local_read : (global local : ℕ) (n : ℤ) → (global ≡ local → ⊥) → integer_in (integer_contents n) ≡ Some n
    → id_in global local (Primitive (context local) (integer_contents n)) ≡ Some (Local n)
local_read global local n apart is =
    let other : is_context global (context local) ≡ false =
    and_right (2 == 2) (global == local) (ne_eqb global local apart) in
    rw (other, same_itself (context local)) (ap (option_map Local) is)

pub denoted_id_is_read : DenotedIdIsRead
denoted_id_is_read global local tree (Global arcs) apart d =
    let p = picked_back (parts_of global local) tree 0 (Identifier arcs) d in
    let same : p.0 ≡ arcs = sym (ap arcs_back p.2) in
    ap (id_in global local) p.1.0
    ∙ (global_read global local p.0 (oid_read p.0 p.1.1 p.1.2) ∙ ap (λ xs. Some (Global xs)) same)
denoted_id_is_read global local tree (Local n) apart d =
    let p = picked_back (parts_of global local) tree 1 (Int n) d in
    let same : p.0 ≡ n = sym (ap number_back p.3) in
    ap (id_in global local) p.1.0
    ∙ (local_read global local p.0 apart (whole_read p.0 p.1.1) ∙ ap (λ m. Some (Local m)) same)

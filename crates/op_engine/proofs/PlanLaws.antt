-- What an operation notes beside a map is what the definition does to the map, where it changes each object under its
-- own name alone and the names rise.
use Rattle.std.proofs.Common.{◌≡◌, ◌≢◌, ◌⊎◌, Bool, true, false, List, [], ◌∷◌, ◌++◌, map, Option, None, Some}
use Rattle.std.proofs.Common.{Result, Ok, Err, refl, sym, ap, ◌∙◌, inl, inr, if◌then◌else◌}
use Rattle.std.proofs.Math.Path.{subst}
use Rattle.std.specs.List.{AllByRecursion}
use Rattle.std.specs.Option.{option_map_or}
use Rattle.std.specs.List.Sorted.{IsStrictlySortedBy}
use Rattle.std.specs.declared.cmp.Ordering.TheVariants.{Less}
use Rattle.term_model.specs.declared.effect.Effect.{Effect}
use Rattle.term_model.specs.declared.name.Rdn.{Rdn}
use Rattle.term_model.specs.declared.object.Object.{Object}
use Rattle.term_model.specs.declared.objects.NamedObject.{NamedObject}
use Rattle.term_model.specs.declared.reply.CmisError.{CmisError}
use Rattle.term_model.specs.declared.reply.Reply.TheVariants as reply
use Rattle.term_model.specs.NameOrder.{name_cmp}
use Rattle.term_model.specs.NamedObjects.{object_at}
use Rattle.op_engine.specs.declared.acting.Acting.{Acting}
use Rattle.op_engine.specs.Acting.{noted, noted_at, noted_of, with_effect, with_failure}
use Rattle.operation_model.specs.WholeOperation.{Act, Changed, Progress, acted_on, acted_on_all, answered, installed}
use Rattle.operation_model.specs.WholeOperation.{installed_at}
use Rattle.term_model.proofs.MapLaws.{not_same}
use Rattle.op_engine.proofs.MapLaws.{at_others}

-- an operation on one object changes nothing, or that object alone, which then is another one
abbrev pub ChangesOne : List Rdn → Object → Changed → Type 0
ChangesOne name object changes =
    (changes ≡ []) ⊎ ((left : Object) × (changes ≡ (name, Some left) ∷ []) × (object ≢ left))

abbrev pub IsOwn : Act → Type 0
IsOwn act = (objects : List NamedObject) (name : List Rdn) (object : Object) (effect : Effect)
    → act objects name object ≡ Ok effect → ChangesOne name object effect.changes

-- and asks nothing of other objects
abbrev pub IsAlone : Act → Type 0
IsAlone act = (one other : List NamedObject) (name : List Rdn) (object : Object)
    → act one name object ≡ act other name object

pub installed_both : (objects : List NamedObject) (xs ys : Changed)
    → installed objects (xs ++ ys) ≡ installed (installed objects xs) ys
installed_both objects [] ys = refl
installed_both objects (x ∷ xs) ys = installed_both (installed_at objects x.0 x.1) xs ys

-- what the definition has and what was noted, so far
pub record Same (atomic : Bool) (objects : List NamedObject) (p : Progress) (a : Acting) : Type 0 where
  pub left : p.objects ≡ installed objects a.changes
  pub sources : a.sources ≡ p.sources
  pub failures : a.failures ≡ (if atomic then map reply.Error p.failures else [])
  pub replies : (atomic ≡ false) ⊎ (p.failures ≡ []) → a.replies ≡ p.replies

map_behind : {A B : Type 0} (f : A → B) (xs : List A) (y : A) → map f (xs ++ y ∷ []) ≡ map f xs ++ f y ∷ []
map_behind f [] y = refl
map_behind f (x ∷ xs) y = ap (λ zs. f x ∷ zs) (map_behind f xs y)

not_empty : {A : Type 0} (xs : List A) (y : A) → xs ++ y ∷ [] ≡ [] → ⊥
not_empty [] y e = absurd cc
not_empty (x ∷ xs) y e = absurd cc

-- and so it stays with what comes of one object
same_effect : (atomic : Bool) (objects : List NamedObject) (p : Progress) (a : Acting) → Same atomic objects p a
    → (effect : Effect) → Same atomic objects (answered p (Ok effect)) (with_effect a effect)
same_effect atomic objects p a s effect = record {
  left = ap (λ os. installed os effect.changes) s.left ∙ sym (installed_both objects a.changes effect.changes);
  sources = ap (λ ss. ss ++ effect.sources) s.sources;
  failures = s.failures;
  replies = λ h. ap (λ rs. rs ++ effect.reply ∷ []) (s.replies h);
}

same_failure : (atomic : Bool) (objects : List NamedObject) (p : Progress) (a : Acting) → Same atomic objects p a
    → (error : CmisError) → Same atomic objects (answered p (Err error)) (with_failure atomic a error)
same_failure true objects p a s error = record {
  left = s.left;
  sources = s.sources;
  failures = ap (λ fs. fs ++ reply.Error error ∷ []) s.failures ∙ sym (map_behind reply.Error p.failures error);
  replies = λ h. absurd (no h);
}
  where
    no : (true ≡ false) ⊎ (p.failures ++ error ∷ [] ≡ []) → ⊥
    no (inl e) = absurd cc
    no (inr e) = not_empty p.failures error e
same_failure false objects p a s error = record {
  left = s.left;
  sources = s.sources;
  failures = s.failures;
  replies = λ h. ap (λ rs. rs ++ reply.Error error ∷ []) (s.replies (inl refl));
}

same_noted : (atomic : Bool) (objects : List NamedObject) (p : Progress) (a : Acting) → Same atomic objects p a
    → (o : Result Effect CmisError) → Same atomic objects (answered p o) (noted atomic a o)
same_noted atomic objects p a s (Ok effect) = same_effect atomic objects p a s effect
same_noted atomic objects p a s (Err error) = same_failure atomic objects p a s error

-- under the names that are left stands what stood there at the beginning
abbrev pub Fresh : List NamedObject → Progress → List (List Rdn) → Type 0
Fresh objects p names = AllByRecursion (λ n. object_at p.objects n ≡ object_at objects n) names

one_stays : (objects : List NamedObject) (name : List Rdn) (object : Object) (changes : Changed) (n : List Rdn)
    → ChangesOne name object changes → name_cmp name n ≡ Less
    → object_at (installed objects changes) n ≡ object_at objects n
one_stays objects name object changes n (inl none) below =
    ap (λ cs. object_at (installed objects cs) n) none
one_stays objects name object changes n (inr one) below =
    ap (λ cs. object_at (installed objects cs) n) one.1
    ∙ at_others objects name (Some one.0) n (not_same name n Less below refl)

answered_stays : (p : Progress) (name : List Rdn) (object : Object) (o : Result Effect CmisError) (n : List Rdn)
    → ((effect : Effect) → o ≡ Ok effect → ChangesOne name object effect.changes) → name_cmp name n ≡ Less
    → object_at (answered p o).objects n ≡ object_at p.objects n
answered_stays p name object (Ok effect) n own below =
    one_stays p.objects name object effect.changes n (own effect refl) below
answered_stays p name object (Err error) n own below = refl

fresh_behind : (objects : List NamedObject) (p q : Progress) (name : List Rdn) (names : List (List Rdn))
    → ((n : List Rdn) → name_cmp name n ≡ Less → object_at q.objects n ≡ object_at p.objects n)
    → AllByRecursion (λ n. name_cmp name n ≡ Less) names → Fresh objects p names → Fresh objects q names
fresh_behind objects p q name [] stays below fresh = tt
fresh_behind objects p q name (n ∷ names) stays below fresh =
    (stays n below.0 ∙ fresh.0, fresh_behind objects p q name names stays below.1 fresh.1)

acted_stays : (act : Act) → IsOwn act → (p : Progress) (name : List Rdn) (n : List Rdn) → name_cmp name n ≡ Less
    → object_at (acted_on act p name).objects n ≡ object_at p.objects n
acted_stays act own p name n below = by (object_at p.objects name)
  where
    by : (o : Option Object)
        → object_at (option_map_or (λ object. answered p (act p.objects name object)) o p).objects n
        ≡ object_at p.objects n
    by None = refl
    by (Some object) = answered_stays p name object (act p.objects name object) n (own p.objects name object) below

same_acted : (atomic : Bool) (act : Act) → IsAlone act → (objects : List NamedObject) (p : Progress) (a : Acting)
    (name : List Rdn)
    → Same atomic objects p a → object_at p.objects name ≡ object_at objects name
    → Same atomic objects (acted_on act p name) (noted_at atomic act objects a name)
same_acted atomic act alone objects p a name s fresh =
    subst (λ x. Same atomic objects (option_map_or (λ object. answered p (act p.objects name object)) x p)
    (noted_at atomic act objects a name)) (sym fresh) (by (object_at objects name))
  where
    by : (o : Option Object)
        → Same atomic objects (option_map_or (λ object. answered p (act p.objects name object)) o p)
        (option_map_or (λ object. noted atomic a (act objects name object)) o a)
    by None = s
    by (Some object) =
        subst (λ x. Same atomic objects (answered p x) (noted atomic a (act objects name object)))
        (alone objects p.objects name object) (same_noted atomic objects p a s (act objects name object))

pub goes : (atomic : Bool) (act : Act) → IsOwn act → IsAlone act → (objects : List NamedObject) (p : Progress)
    (a : Acting)
    (names : List (List Rdn)) → IsStrictlySortedBy name_cmp names → Fresh objects p names → Same atomic objects p a
    → Same atomic objects (acted_on_all act p names) (noted_of atomic act objects a names)
unfolding IsStrictlySortedBy
goes atomic act own alone objects p a [] rising fresh s = s
goes atomic act own alone objects p a (name ∷ names) rising fresh s =
    goes atomic act own alone objects (acted_on act p name) (noted_at atomic act objects a name) names rising.1
    (fresh_behind objects p (acted_on act p name) name names (acted_stays act own p name) rising.0 fresh.1)
    (same_acted atomic act alone objects p a name s fresh.0)

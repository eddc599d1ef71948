-- The attempts with one binding after the other lead to the one that leads furthest.
use Rattle.std.proofs.Common.{◌≡◌, ℕ, List, [], ◌∷◌, Bool, true, false, refl, ap, sym, ◌∙◌}
use Rattle.std.specs.Prelude.{filter, map, Option, None, Some, Result, if◌then◌else◌}
use Rattle.term_model.specs.declared.creation.Creation.{Creation}
use Rattle.term_model.specs.declared.creation.Outline.{Outline}
use Rattle.term_model.specs.declared.name_binding.BindRec.{BindRec}
use Rattle.term_model.specs.declared.object.Object.{Object}
use Rattle.term_model.specs.declared.reply.CmisError.{CmisError}
use Rattle.term_model.specs.declared.schema.Set.{Set}
use Rattle.term_model.specs.Creating.{Attempt, attempted, best_of, created_below, furthest, leads_further}
use Rattle.term_model.specs.Creation.{outline_of}
use Rattle.term_model.specs.Licensing.{binds, names_by}
use Rattle.op_life.specs.declared.licensing.ClassLine.{ClassLine}
use Rattle.op_life.specs.Attempting.{best_with, binds_by, line_of, told_of, tried_all}

furthest_in_turn : (binding : BindRec → Bool) (attempt : BindRec → Attempt) (best : Attempt) (others : List BindRec)
    → tried_all binding attempt (Some best) others ≡ Some (furthest best (map attempt (filter binding others)))
furthest_in_turn binding attempt best [] = refl
furthest_in_turn binding attempt best (first ∷ others) =
    by_test (binding first) (furthest_in_turn binding attempt best others)
    (furthest_in_turn binding attempt (if leads_further (attempt first) best then attempt first else best) others)
  where
    next : Attempt
    next = if leads_further (attempt first) best then attempt first else best

    by_test : (licensed : Bool)
        → tried_all binding attempt (Some best) others ≡ Some (furthest best (map attempt (filter binding others)))
        → tried_all binding attempt (Some next) others ≡ Some (furthest next (map attempt (filter binding others)))
        → tried_all binding attempt (if licensed then Some next else Some best) others
        ≡ Some
        (furthest best
        (map attempt (if licensed then first ∷ filter binding others else filter binding others)))
    by_test true stays goes = goes
    by_test false stays goes = stays

told_in_turn : (creation : Creation) (binding : BindRec → Bool) (attempt : BindRec → Attempt) (others : List BindRec)
    → told_of creation (tried_all binding attempt None others)
    ≡ best_of creation (map attempt (filter binding others))
told_in_turn creation binding attempt [] = refl
told_in_turn creation binding attempt (first ∷ others) =
    by_test (binding first) (told_in_turn creation binding attempt others)
    (ap (told_of creation) (furthest_in_turn binding attempt (attempt first) others))
  where
    by_test : (licensed : Bool)
        → told_of creation (tried_all binding attempt None others)
        ≡ best_of creation (map attempt (filter binding others))
        → told_of creation (tried_all binding attempt (Some (attempt first)) others)
        ≡ told_of creation (Some (furthest (attempt first) (map attempt (filter binding others))))
        → told_of creation (tried_all binding attempt (if licensed then Some (attempt first) else None) others)
        ≡ best_of creation
        (map attempt (if licensed then first ∷ filter binding others else filter binding others))
    by_test true stays goes = goes
    by_test false stays goes = stays

told_by_name : (creation : Creation) (binding : BindRec → Bool) (attempt : BindRec → Attempt)
    (others : List BindRec) (named : Bool)
    → told_of creation (if named then tried_all binding attempt None others else None)
    ≡ best_of creation (map attempt (if named then filter binding others else []))
told_by_name creation binding attempt others true = told_in_turn creation binding attempt others
told_by_name creation binding attempt others false = refl

pub best_is_told : (schema : Set) (clause with_reference : Bool) (creation : Creation) (superior : List ℕ)
    (outline : Outline) (best : Option Attempt) (came : Result Object CmisError)
    → outline ≡ outline_of schema creation.class creation.given
    → best ≡ best_with schema clause with_reference creation outline superior → came ≡ told_of creation best
    → came ≡ created_below schema clause with_reference creation superior
best_is_told schema clause with_reference creation superior outline best came whole found e =
    e ∙ ap (told_of creation) found
    ∙ ap
    (λ (of_object : Outline).
    told_of creation (best_with schema clause with_reference creation of_object superior))
    whole
    ∙ told_by_name creation (binds schema creation.class superior creation.named.attribute)
    (attempted schema clause with_reference creation (outline_of schema creation.class creation.given))
    schema.bindings
    (names_by schema (outline_of schema creation.class creation.given) creation.named.attribute)

pub best_by_lines : (schema : Set) (clause with_reference : Bool) (creation : Creation) (outline : Outline)
    (superior : List ℕ) (own above : ClassLine) (best : Option Attempt)
    → true ≡ names_by schema outline creation.named.attribute → own ≡ line_of schema creation.class
    → above ≡ line_of schema superior
    → best
    ≡ tried_all (binds_by own above creation.named.attribute)
    (attempted schema clause with_reference creation outline) None schema.bindings
    → best ≡ best_with schema clause with_reference creation outline superior
best_by_lines schema clause with_reference creation outline superior own above best named own_is above_is e =
    e
    ∙ ap
    (λ (line : ClassLine).
    tried_all (binds_by line above creation.named.attribute)
    (attempted schema clause with_reference creation outline) None schema.bindings)
    own_is
    ∙ ap
    (λ (line : ClassLine).
    tried_all (binds_by (line_of schema creation.class) line creation.named.attribute)
    (attempted schema clause with_reference creation outline) None schema.bindings)
    above_is
    ∙ ap
    (λ (of_own : Bool).
    if of_own
    then tried_all (binds schema creation.class superior creation.named.attribute)
    (attempted schema clause with_reference creation outline) None schema.bindings
    else None)
    named

pub not_named : (schema : Set) (clause with_reference : Bool) (creation : Creation) (outline : Outline)
    (superior : List ℕ) → names_by schema outline creation.named.attribute ≡ false
    → None ≡ best_with schema clause with_reference creation outline superior
not_named schema clause with_reference creation outline superior named =
    ap
    (λ (of_own : Bool).
    if of_own
    then tried_all (binds schema creation.class superior creation.named.attribute)
    (attempted schema clause with_reference creation outline) None schema.bindings
    else None)
    (sym named)

-- FindingLaws: parts of a text that are looked through one behind the other, and a template with its parts.
use Rattle.std.proofs.Common.{◌≡◌, ◌<◌, ◌≤◌, ◌∙◌, ◌+◌, ℕ, zero, suc, List, [], ◌∷◌, ◌++◌, Option, None, Some, refl, sym}
use Rattle.std.proofs.Common.{ap, arith, get_or, length, set, take, map, option_map, slice_get}
use Rattle.std.specs.Borrow.{Bor}
use Rattle.std.specs.Prelude.{All, flat_map, option_copied}
use Rattle.std.specs.declared.alloc.Global.{Global}
use Rattle.std.specs.declared.vec.Vec.{Vec}
use Rattle.std.proofs.lemmas.List.{append-nil, append_assoc, map-append, take_all}
use Rattle.std.proofs.lemmas.Grind.{flat_map-append}
use Rattle.std.proofs.Math.Path.{subst}
use Rattle.token_grammar.specs.declared.object_identifier.ObjectIdentifier.{ObjectIdentifier}
use Rattle.token_grammar.specs.declared.token.Token.{Token}
use Rattle.gdmo_names.specs.declared.found.Finding.{Finding}
use Rattle.gdmo_names.specs.declared.found.Found.{Found}
use Rattle.gdmo_names.specs.declared.found.Mention.{Mention as FoundMention}
use Rattle.gdmo_names.specs.declared.found.Target.{Target}
use Rattle.gdmo_names.specs.declared.found.Target.TheVariants.{Label, InLine}
use Rattle.gdmo_names.specs.declared.roles.Role.{Role as CodeRole}
use Rattle.gdmo_names.specs.DocumentTemplates.{in_body, in_reference}
use Rattle.gdmo_names.specs.FindingSteps.{Adds, Begins, Finds, FindsRow, FindsTarget, FindsTemplate, Tells, placed_in, told}
use Rattle.gdmo_names.specs.FoundViews.{Pointed, found_term, found_view, found_views, target_view}
use Rattle.gdmo_names.specs.FoundViews.Pointed.{AtTemplate}
use Rattle.gdmo_names.specs.InStep.{AreAll, AreEach}
use Rattle.gdmo_names.specs.MemberViews.{identifier_term, reference_terms}
use Rattle.gdmo_names.specs.Mentions.{Role, Mention, body_mentions, mention, template_mentions, wanted_kind}
use Rattle.gdmo_names.specs.PartTerms.{Placed}
use Rattle.gdmo_names.specs.Roles.{role_term}
use Rattle.gdmo_names.specs.TargetTables.{Fits, HasMentions, IsMention}
use Rattle.gdmo_names.specs.TemplateTerms.{BodyTerm, IdentifierTerm, ReferenceTerm, TemplateTerm}
use Rattle.gdmo_names.specs.TemplateTerms.ReferenceTerm.{ByLabel, InLine as InLineTerm}
use Rattle.gdmo_names.specs.TemplateTerms.TemplateTerm.{Template}
use Rattle.gdmo_names.proofs.InStepLaws.{all_both, all_by, each_both, each_by}
use Rattle.gdmo_names.proofs.NotingLaws.{more}

-- ---- what numbers tell stays the same while templates are added

got_grown : (xs ys : List Placed) (n : ℕ) (p : Pointed) → option_map AtTemplate (slice_get xs n) ≡ Some p →
    option_map AtTemplate (slice_get (xs ++ ys) n) ≡ Some p
got_grown [] ys n p h = absurd (cc)
got_grown (x ∷ xs) ys zero p h = h
got_grown (x ∷ xs) ys (suc n) p h = got_grown xs ys n p h

view_grown : (xs ys : List Placed) (at : Target) (p : Pointed) → target_view xs at ≡ Some p →
    target_view (xs ++ ys) at ≡ Some p
view_grown xs ys (Label label) p h = h
view_grown xs ys (InLine n) p h = got_grown xs ys n p h

-- what is told by some list of templates is told by another one
abbrev pub TellsMore : List Found → List Found → Type 0
TellsMore xs ys = (at : Target) (p : Pointed) → target_view (found_views xs) at ≡ Some p →
    target_view (found_views ys) at ≡ Some p

pub tells_grown : (xs ys zs : List Found) → zs ≡ xs ++ ys → TellsMore xs zs
tells_grown xs ys zs is at p h =
    subst (λ views. target_view views at ≡ Some p) (sym (ap found_views is ∙ map-append found_view xs ys))
    (view_grown (found_views xs) (found_views ys) at p h)

pub tells_same : (xs ys : List Found) → found_views xs ≡ found_views ys → TellsMore xs ys
tells_same xs ys is at p h = subst (λ views. target_view views at ≡ Some p) is h

mention_grown : (xs ys : List Found) → TellsMore xs ys → (document : ℕ) (x : FoundMention) (y : Mention) →
    IsMention xs document x y → IsMention ys document x y
mention_grown xs ys grown document x y is =
    record { in_role = is.in_role; refers = grown x.target _ is.refers; fits = is.fits }

pub each_grown : (xs ys : List Found) → TellsMore xs ys → (document : ℕ) (own : List FoundMention)
    (named : List Mention) → AreEach (IsMention xs document) own named → AreEach (IsMention ys document) own named
each_grown xs ys grown document own named h =
    each_by (IsMention xs document) (IsMention ys document) (mention_grown xs ys grown document) own named h

pub all_grown : (xs ys : List Found) → TellsMore xs ys → (added : List Found) → AreAll (HasMentions xs) added →
    AreAll (HasMentions ys) added
all_grown xs ys grown added h = all_by (HasMentions xs) (HasMentions ys)
    (λ x has. each_grown xs ys grown x.document x.mentions.items _ has) added h

-- ---- templates that are added

pub adds_none : (a : Finding) → Adds a a []
adds_none a = record {
  document = refl;
  added = [];
  behind = sym (append-nil a.templates.items);
  views = refl;
  have = tt;
}

pub adds_both : {a b c : Finding} {xs ys : List TemplateTerm} → Adds a b xs → Adds b c ys → Adds a c (xs ++ ys)
adds_both {a} {b} {c} {xs} {ys} p q = record {
  document = q.document ∙ p.document;
  added = p.added ++ q.added;
  behind = q.behind ∙ ap (λ zs. zs ++ q.added) p.behind ∙ append_assoc a.templates.items p.added q.added;
  views = map-append found_view p.added q.added ∙ ap (λ zs. zs ++ found_views q.added) p.views
      ∙ ap (λ zs. map (placed_in a.document) xs ++ zs)
      (q.views ∙ ap (λ (document : ℕ). map (placed_in document) ys) p.document)
      ∙ sym (map-append (placed_in a.document) xs ys);
  have = all_both (HasMentions c.templates.items) p.added q.added
      (all_grown b.templates.items c.templates.items
      (tells_grown b.templates.items q.added c.templates.items q.behind) p.added p.have) q.have;
}

-- ---- what parts name

pub finds_none : (a : Finding) (own : List FoundMention) → Finds a a own own [] []
finds_none a own = record { adds = adds_none a; more = []; behind = sym (append-nil own); are = tt }

pub finds_both : {a b c : Finding} {own other last : List FoundMention} {xs ys : List TemplateTerm}
    {ms ns : List Mention} → Finds a b own other xs ms → Finds b c other last ys ns →
    Finds a c own last (xs ++ ys) (ms ++ ns)
finds_both {a} {b} {c} {own} {other} {last} {xs} {ys} {ms} {ns} p q = record {
  adds = adds_both p.adds q.adds;
  more = p.more ++ q.more;
  behind = q.behind ∙ ap (λ zs. zs ++ q.more) p.behind ∙ append_assoc own p.more q.more;
  are = each_both (IsMention c.templates.items a.document) p.more ms q.more ns
      (each_grown b.templates.items c.templates.items
      (tells_grown b.templates.items q.adds.added c.templates.items q.adds.behind) a.document p.more ms p.are)
      (subst (λ (document : ℕ). AreEach (IsMention c.templates.items document) q.more ns) p.adds.document q.are);
}

pub finds_as : {a b : Finding} {own other : List FoundMention} {xs ys : List TemplateTerm} {ms ns : List Mention} →
    xs ≡ ys → ms ≡ ns → Finds a b own other xs ms → Finds a b own other ys ns
finds_as {a} {b} {own} {other} {ys = ys} {ms = ms} xs_is ms_is h =
    subst (λ ns. Finds a b own other ys ns) ms_is (subst (λ zs. Finds a b own other zs ms) xs_is h)

pub finds_alone : {a b : Finding} {own other : List FoundMention} {xs : List TemplateTerm} {ms : List Mention} →
    Finds a b own other xs ms → Finds a b own other (xs ++ []) (ms ++ [])
finds_alone {xs = xs} {ms = ms} h = finds_as (sym (append-nil xs)) (sym (append-nil ms)) h

-- of a slice of the row
pub finds_slice : {X : Type 0} {a b : Finding} {own other : List FoundMention} (role : Role) (view : X → ReferenceTerm)
    {xs ys : List X} → xs ≡ ys → FindsRow a b own other role (reference_terms view xs) →
    FindsRow a b own other role (reference_terms view ys)
finds_slice {a = a} {b = b} {own = own} {other = other} role view is h =
    subst (λ zs. FindsRow a b own other role (reference_terms view zs)) is h

-- one reference
pub finds_one : {a b : Finding} {own other : List FoundMention} (role : CodeRole) (target : Target)
    (reference : ReferenceTerm) → Fits (wanted_kind (role_term role)) reference → FindsTarget a b target reference →
    other ≡ own ++ record { role = role; target = target } ∷ [] →
    Finds a b own other (in_reference reference) (mention (role_term role) reference ∷ [])
finds_one role target reference fits found is = record {
  adds = found.adds;
  more = record { role = role; target = target } ∷ [];
  behind = is;
  are = (record { in_role = refl; refers = found.refers; fits = fits }, tt);
}

-- the elements of a list, one behind the other
pub finds_step : {X : Type 0} {a b c : Finding} {own other last : List FoundMention} (in_one : X → List TemplateTerm)
    (named : X → List Mention) (xs : List X) (i : ℕ) (x : X) → i < length xs → x ≡ get_or xs i x →
    Finds a b own other (flat_map in_one (take i xs)) (flat_map named (take i xs)) →
    Finds b c other last (in_one x) (named x) →
    Finds a c own last (flat_map in_one (take (i + 1) xs)) (flat_map named (take (i + 1) xs))
finds_step {X = X} in_one named xs i x within is p q = finds_as (sym (flat_more in_one)) (sym (flat_more named)) (finds_both p q)
  where
    flat_more : {Y : Type 0} (f : X → List Y) → flat_map f (take (i + 1) xs) ≡ flat_map f (take i xs) ++ f x
    flat_more f = ap (flat_map f) (more xs i x within is) ∙ flat_map-append f (take i xs) (x ∷ [])
        ∙ ap (λ zs. flat_map f (take i xs) ++ zs) (append-nil (f x))

pub finds_end : {X : Type 0} {a b : Finding} {own other : List FoundMention} (in_one : X → List TemplateTerm)
    (named : X → List Mention) (xs : List X) (i : ℕ) → length xs ≤ i →
    Finds a b own other (flat_map in_one (take i xs)) (flat_map named (take i xs)) →
    Finds a b own other (flat_map in_one xs) (flat_map named xs)
finds_end in_one named xs i past h =
    finds_as (ap (flat_map in_one) (take_all i xs past)) (ap (flat_map named) (take_all i xs past)) h

-- ---- a template and its parts

pub template_found : {a b c d : Finding} {number : ℕ} {label : Token} {identifier : Option IdentifierTerm}
    {body : BodyTerm} {own : Vec FoundMention Global} {first : List FoundMention} → first ≡ [] →
    Begins a b number (Template label identifier body) →
    Finds b c first own.items (in_body body) (body_mentions body) → Tells c d number own →
    FindsTemplate a d number (Template label identifier body)
template_found {a} {b} {c} {d} {number} {label} {identifier} {body} {own} {first} empty begun parts ended = record {
  is_number = begun.is_number;
  adds = record {
    document = ended.document ∙ parts.adds.document ∙ begun.document;
    added = told begun.found own ∷ parts.adds.added;
    behind = last;
    views = ap (λ p. p ∷ found_views parts.adds.added) begun.view ∙ ap (λ ps. placed_in a.document
        (Template label identifier body) ∷ ps)
        (parts.adds.views ∙ ap (λ (document : ℕ). map (placed_in document) (in_body body)) begun.document);
    have = (
      subst (λ (p : Placed). AreEach (IsMention d.templates.items p.document) own.items
          (template_mentions p.template))
          (sym begun.view)
          (subst (λ (document : ℕ). AreEach (IsMention d.templates.items document) own.items (body_mentions body))
          begun.document (subst (λ ms. AreEach (IsMention d.templates.items b.document) ms (body_mentions body))
          (sym (parts.behind ∙ ap (λ zs. zs ++ parts.more) empty))
          (each_grown c.templates.items d.templates.items same b.document parts.more (body_mentions body) parts.are))),
      all_grown c.templates.items d.templates.items same parts.adds.added parts.adds.have,
    );
  };
}
  where
    inner : c.templates.items ≡ a.templates.items ++ begun.found ∷ parts.adds.added
    inner = parts.adds.behind ∙ ap (λ zs. zs ++ parts.adds.added) begun.behind
        ∙ append_assoc a.templates.items (begun.found ∷ []) parts.adds.added

    last : d.templates.items ≡ a.templates.items ++ told begun.found own ∷ parts.adds.added
    last = ended.is a.templates.items parts.adds.added begun.found inner begun.is_number

    same : TellsMore c.templates.items d.templates.items
    same = tells_same c.templates.items d.templates.items
        (ap found_views inner ∙ map-append found_view a.templates.items (begun.found ∷ parts.adds.added)
        ∙ sym (map-append found_view a.templates.items (told begun.found own ∷ parts.adds.added))
        ∙ sym (ap found_views last))

-- what a template names is told
set_told : (first last : List Found) (x other : Found) (own : Vec FoundMention Global) →
    set (first ++ x ∷ last) (length first) (told (get_or (first ++ x ∷ last) (length first) other) own)
    ≡ first ++ told x own ∷ last
set_told [] last x other own = refl
set_told (y ∷ ys) last x other own = ap (λ zs. y ∷ zs) (set_told ys last x other own)

pub told_at : (xs first last : List Found) (x other : Found) (n : ℕ) (own : Vec FoundMention Global) →
    xs ≡ first ++ x ∷ last → n ≡ length first → set xs n (told (get_or xs n other) own) ≡ first ++ told x own ∷ last
told_at xs first last x other n own is n_is = ap (λ (m : ℕ). set xs m (told (get_or xs m other) own)) n_is
    ∙ ap (λ zs. set zs (length first) (told (get_or zs (length first) other) own)) is
    ∙ set_told first last x other own

-- the identifier under which it is registered
pub registered : (found : Option (Bor ObjectIdentifier)) (x : Option ObjectIdentifier) → option_copied found ≡ x →
    option_map (λ (y : Bor ObjectIdentifier). identifier_term y.now) found ≡ option_map identifier_term x
registered None x is = ap (option_map identifier_term) is
registered (Some y) x is = ap (option_map identifier_term) is

pub template_as : {a b : Finding} {number : ℕ} {label : Token} {identifier other : Option IdentifierTerm}
    {body : BodyTerm} → identifier ≡ other → FindsTemplate a b number (Template label identifier body) →
    FindsTemplate a b number (Template label other body)
template_as {a} {b} {number} {label} {body = body} is h =
    subst (λ i. FindsTemplate a b number (Template label i body)) is h

-- a template that names nothing
pub template_alone : {a b : Finding} {number : ℕ} {label : Token} {identifier : Option IdentifierTerm}
    {body : BodyTerm} → in_body body ≡ [] → body_mentions body ≡ [] →
    Begins a b number (Template label identifier body) → FindsTemplate a b number (Template label identifier body)
template_alone {a} {b} {number} {label} {identifier} {body} inner none begun = record {
  is_number = begun.is_number;
  adds = record {
    document = begun.document;
    added = begun.found ∷ [];
    behind = begun.behind;
    views = ap (λ p. p ∷ []) begun.view ∙ ap (λ ts. placed_in a.document (Template label identifier body)
        ∷ map (placed_in a.document) ts) (sym inner);
    have = (
      subst (λ ms. AreEach (IsMention b.templates.items begun.found.document) ms
          (template_mentions (found_term begun.found)))
          (sym begun.empty)
          (subst (λ ns. AreEach (IsMention b.templates.items begun.found.document) [] ns)
          (sym (ap (λ (p : Placed). template_mentions p.template) begun.view ∙ none)) tt),
      tt,
    );
  };
}

-- ---- references

pub target_label : (a : Finding) (label : Bor Token) → FindsTarget a a (Label label) (ByLabel label.now)
target_label a label = record { adds = adds_none a; refers = refl }

pub target_in_line : {a b : Finding} {number : ℕ} {label : Token} {identifier : Option IdentifierTerm}
    {body : BodyTerm} → FindsTemplate a b number (Template label identifier body) →
    FindsTarget a b (InLine number) (InLineTerm (Template label identifier body))
target_in_line {a} {b} {number} {label} {identifier} {body} found = record {
  adds = found.adds;
  refers = ap (option_map AtTemplate) (ap (λ n. slice_get (found_views b.templates.items) n) found.is_number
      ∙ ap (λ views. slice_get views (length a.templates.items))
      (ap found_views found.adds.behind ∙ map-append found_view a.templates.items found.adds.added
      ∙ ap (λ zs. found_views a.templates.items ++ zs) found.adds.views)
      ∙ at_end a.templates.items (placed_in a.document (Template label identifier body))
      (map (placed_in a.document) (in_body body)));
}
  where
    at_end : (xs : List Found) (x : Placed) (ys : List Placed) →
        slice_get (found_views xs ++ x ∷ ys) (length xs) ≡ Some x
    at_end [] x ys = refl
    at_end (y ∷ xs) x ys = at_end xs x ys

-- ---- all templates

pub all_of : {X : Type 0} (P : X → Type 0) (xs : List X) → AreAll P xs → All P xs
all_of P [] h k d below = absurd (omega (arith, below))
all_of P (x ∷ xs) h zero d below = h.0
all_of P (x ∷ xs) h (suc k) d below = all_of P xs h.1 k d (omega (arith, below))

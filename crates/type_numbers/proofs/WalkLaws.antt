-- WalkLaws: the number of a type from the numbers of what stands within it.
use Rattle.std.proofs.Common.{◌≡◌, ◌∷◌, [], ℕ, List, Bool, IfOk, Option, Result, Ok, Err, sym}
use Rattle.std.proofs.Math.Path.{subst}
use Rattle.term_values.specs.Sketch.{Sketch}
use Rattle.term_values.specs.Sketch.Sketch.{Join, Leaf}
use Rattle.term_values.specs.Syntaxes.{Bounds, TypeParts, TypeSyntax}
use Rattle.term_values.specs.Syntaxes.TypeSyntax.{Choice, Sequence, SequenceOf, SetOf, SetType, Tagged}
use Rattle.term_values.specs.declared.tag.Tag.{Tag}
use Rattle.asn1_names.specs.ModuleTerms.{ModuleTerm, TypeTerm}
use Rattle.key_numbers.specs.KeyNumbers.{IsKeyNumber, IsSketchNumber, key_sketch, parts_sketch}
use Rattle.key_numbers.specs.NumberedLists.{Row}
use Rattle.key_numbers.specs.TypeKeys.{TypeKey}
use Rattle.key_numbers.specs.TypeKeys.TypeKey.{TaggedKey}
use Rattle.type_numbers.specs.KeysBeside.{AreBesideAt, IsBesideAt, IsBesideEnd}
use Rattle.type_numbers.specs.MarkedKeys.{marked, marked_parts}
use Rattle.type_numbers.specs.PlacedTerms.{beneath_at}
use Rattle.type_numbers.proofs.BesideLaws.{beside_choice, beside_list, beside_members, beside_sequence, beside_set}
use Rattle.type_numbers.proofs.BesideLaws.{beside_tagged}

pub if_ok_by : {A E : Type 0} {P Q : A → Type 0} (r : Result A E) → ((x : A) → P x → Q x) → IfOk r P → IfOk r Q
if_ok_by (Ok x) f h = f x h
if_ok_by (Err e) f h = tt

-- a key that goes with a text goes with the text at the end of names
abbrev pub EndsAtText : List ModuleTerm → Option (ℕ × TypeTerm) → Option (ℕ × TypeTerm) → Type 0
EndsAtText ms stated text = (key : TypeKey) → IsBesideAt ms stated key → IsBesideEnd ms text key

-- the number of a syntax, beside a text
abbrev pub NumbersSyntax : List ModuleTerm → Option (ℕ × TypeTerm) → TypeSyntax → Row → ℕ → Type 0
NumbersSyntax ms stated syntax row n =
    (f : List ℕ → Bool) → IsBesideAt ms stated (marked syntax f) → IsKeyNumber row (marked syntax f) n

abbrev pub NumbersParts : List ModuleTerm → Option (ℕ × TypeTerm) → TypeParts → Row → ℕ → Type 0
NumbersParts ms text parts row n = (f : ℕ → List ℕ → Bool) → AreBesideAt ms text (marked_parts parts f) →
    IsSketchNumber row (parts_sketch (marked_parts parts f)) n

-- the number of two that are joined, from that of the second one
abbrev pub Joins : Row → ℕ → Row → ℕ → Bounds → ℕ → Type 0
Joins before of after kind bounds n =
    (x : Sketch) → IsSketchNumber before x of → IsSketchNumber after (Join kind (Leaf 0 [] bounds) x) n

pub sequence_told : {E : Type 0} (ms : List ModuleTerm) (stated text : Option (ℕ × TypeTerm)) (syntax : TypeSyntax)
    (parts : TypeParts) (before after : Row) (members : ℕ) (r : Result ℕ E) → syntax ≡ Sequence parts →
    EndsAtText ms stated text → NumbersParts ms text parts before members →
    IfOk r (Joins before members after 4 []) → IfOk r (NumbersSyntax ms stated syntax after)
sequence_told ms stated text syntax parts before after members r e ends typed = if_ok_by r (λ n join f b.
    let g : ℕ → List ℕ → Bool = λ k path. f (k ∷ path) in
    subst (λ s. IsKeyNumber after (marked s f) n) (sym e) (join (parts_sketch (marked_parts parts g)) (typed g
    (beside_sequence ms text (marked_parts parts g)
    (ends _ (subst (λ s. IsBesideAt ms stated (marked s f)) e b))))))

pub set_told : {E : Type 0} (ms : List ModuleTerm) (stated text : Option (ℕ × TypeTerm)) (syntax : TypeSyntax)
    (parts : TypeParts) (before after : Row) (members : ℕ) (r : Result ℕ E) → syntax ≡ SetType parts →
    EndsAtText ms stated text → NumbersParts ms text parts before members →
    IfOk r (Joins before members after 5 []) → IfOk r (NumbersSyntax ms stated syntax after)
set_told ms stated text syntax parts before after members r e ends typed = if_ok_by r (λ n join f b.
    let g : ℕ → List ℕ → Bool = λ k path. f (k ∷ path) in
    subst (λ s. IsKeyNumber after (marked s f) n) (sym e) (join (parts_sketch (marked_parts parts g)) (typed g
    (beside_members ms text (marked_parts parts g)
    (ends _ (subst (λ s. IsBesideAt ms stated (marked s f)) e b))))))

pub choice_told : {E : Type 0} (ms : List ModuleTerm) (stated text : Option (ℕ × TypeTerm)) (syntax : TypeSyntax)
    (parts : TypeParts) (before after : Row) (members : ℕ) (r : Result ℕ E) → syntax ≡ Choice parts →
    EndsAtText ms stated text → NumbersParts ms text parts before members →
    IfOk r (Joins before members after 6 []) → IfOk r (NumbersSyntax ms stated syntax after)
choice_told ms stated text syntax parts before after members r e ends typed = if_ok_by r (λ n join f b.
    let g : ℕ → List ℕ → Bool = λ k path. f (k ∷ path) in
    subst (λ s. IsKeyNumber after (marked s f) n) (sym e) (join (parts_sketch (marked_parts parts g)) (typed g
    (beside_choice ms text (marked_parts parts g)
    (ends _ (subst (λ s. IsBesideAt ms stated (marked s f)) e b))))))

pub list_told : {E : Type 0} (ms : List ModuleTerm) (stated text at : Option (ℕ × TypeTerm)) (syntax of : TypeSyntax)
    (bounds : Bounds) (before after : Row) (member : ℕ) (r : Result ℕ E) → syntax ≡ SequenceOf of bounds →
    at ≡ beneath_at text → EndsAtText ms stated text → NumbersSyntax ms at of before member →
    IfOk r (Joins before member after 7 bounds) → IfOk r (NumbersSyntax ms stated syntax after)
list_told ms stated text at syntax of bounds before after member r e beneath ends typed = if_ok_by r (λ n join f b.
    subst (λ s. IsKeyNumber after (marked s f) n) (sym e) (join (key_sketch (marked of f)) (typed f
    (subst (λ t. IsBesideAt ms t (marked of f)) (sym beneath) (beside_list ms text (marked of f) bounds
    (ends _ (subst (λ s. IsBesideAt ms stated (marked s f)) e b)))))))

pub set_of_told : {E : Type 0} (ms : List ModuleTerm) (stated text at : Option (ℕ × TypeTerm)) (syntax of : TypeSyntax)
    (bounds : Bounds) (before after : Row) (member : ℕ) (r : Result ℕ E) → syntax ≡ SetOf of bounds →
    at ≡ beneath_at text → EndsAtText ms stated text → NumbersSyntax ms at of before member →
    IfOk r (Joins before member after 8 bounds) → IfOk r (NumbersSyntax ms stated syntax after)
set_of_told ms stated text at syntax of bounds before after member r e beneath ends typed = if_ok_by r (λ n join f b.
    subst (λ s. IsKeyNumber after (marked s f) n) (sym e) (join (key_sketch (marked of f)) (typed f
    (subst (λ t. IsBesideAt ms t (marked of f)) (sym beneath) (beside_set ms text (marked of f) bounds
    (ends _ (subst (λ s. IsBesideAt ms stated (marked s f)) e b)))))))

pub tagged_told : {E : Type 0} (ms : List ModuleTerm) (stated text at : Option (ℕ × TypeTerm)) (syntax of : TypeSyntax)
    (tag : Tag) (explicit : Bool) (before after : Row) (beneath : ℕ) (r : Result ℕ E) →
    syntax ≡ Tagged tag explicit of → at ≡ beneath_at text → EndsAtText ms stated text →
    NumbersSyntax ms at of before beneath →
    IfOk r (λ n. (key : TypeKey) → IsKeyNumber before key beneath → IsKeyNumber after (TaggedKey tag explicit key) n) →
    IfOk r (NumbersSyntax ms stated syntax after)
tagged_told ms stated text at syntax of tag explicit before after beneath r e under ends typed = if_ok_by r
    (λ n join f b.
    subst (λ s. IsKeyNumber after (marked s f) n) (sym e) (join (marked of f) (typed f
    (subst (λ t. IsBesideAt ms t (marked of f)) (sym under) (beside_tagged ms text tag explicit (marked of f)
    (ends _ (subst (λ s. IsBesideAt ms stated (marked s f)) e b)))))))

-- For which entries a journal has room: what one entry more changes, and that a journal is filled in one way.
use Rattle.std.proofs.Common.{◌≡◌, true, false, List, [], ◌∷◌, ◌++◌, refl, sym, ap, ◌∙◌}
use Rattle.std.proofs.lemmas.Bool.{false≢true}
use Rattle.std.proofs.lemmas.List.{append_assoc}
use Rattle.agent_model.specs.declared.agent_state.AgentState.{AgentState}
use Rattle.agent_model.specs.declared.entry.Entry.{Entry}
use Rattle.agent_model.specs.JournalLaws.{FilledOnce}
use Rattle.agent_model.specs.JournalRoom.{HasRoom, IsFilled, is_refused_behind}

-- of two parts of a journal, each before an entry, either both are one, or one of the entries stands in the other part
data Parts (one other : List Entry) (first second : Entry) : Type 0 where
  alike : one ≡ other → Parts one other first second
  shorter : (rest : List Entry) → other ≡ one ++ first ∷ rest → Parts one other first second
  longer : (rest : List Entry) → one ≡ other ++ second ∷ rest → Parts one other first second

further : (one other : List Entry) (first second x y : Entry) → x ≡ y → Parts one other first second
    → Parts (x ∷ one) (y ∷ other) first second
further one other first second x y e (alike same) = alike (cc)
further one other first second x y e (shorter rest is) = shorter rest (ap (λ z. z ∷ other) (sym e) ∙ ap (λ zs. x ∷ zs) is)
further one other first second x y e (longer rest is) = longer rest (ap (λ z. z ∷ one) e ∙ ap (λ zs. y ∷ zs) is)

parts : (one other : List Entry) (first second : Entry) (behind after : List Entry)
    → one ++ first ∷ behind ≡ other ++ second ∷ after → Parts one other first second
parts [] [] first second behind after e = alike refl
parts [] (y ∷ ys) first second behind after e =
    let same : first ≡ y = cc in shorter ys (ap (λ z. z ∷ ys) (sym same))
parts (x ∷ xs) [] first second behind after e =
    let same : x ≡ second = cc in longer xs (ap (λ z. z ∷ xs) same)
parts (x ∷ xs) (y ∷ ys) first second behind after e =
    let same : x ≡ y = cc in
    let rest : xs ++ first ∷ behind ≡ ys ++ second ∷ after = cc in
    further xs ys first second x y same (parts xs ys first second behind after rest)

-- no entry is refused in an empty journal
pub room_none : (agent : AgentState) → HasRoom agent []
room_none agent [] after next e = absurd (cc)
room_none agent (x ∷ before) after next e = absurd (cc)

refused_at : (agent : AgentState) (before journal : List Entry) (next last : Entry) → before ≡ journal → next ≡ last
    → is_refused_behind agent journal last ≡ false → is_refused_behind agent before next ≡ false
refused_at agent before journal next last same equal kept =
    ap (λ xs. is_refused_behind agent xs next) same ∙ (ap (λ e. is_refused_behind agent journal e) equal ∙ kept)

last_is : (before journal : List Entry) (next last : Entry) (after : List Entry)
    → journal ++ last ∷ [] ≡ before ++ next ∷ after → before ≡ journal → next ≡ last
last_is [] [] next last after e same = cc
last_is [] (y ∷ ys) next last after e same = absurd (cc)
last_is (x ∷ xs) [] next last after e same = absurd (cc)
last_is (x ∷ xs) (y ∷ ys) next last after e same =
    let rest : ys ++ last ∷ [] ≡ xs ++ next ∷ after = cc in
    let front : xs ≡ ys = cc in last_is xs ys next last after rest front

no_more : (journal rest after : List Entry) (next last : Entry)
    → journal ++ last ∷ [] ≡ (journal ++ last ∷ rest) ++ next ∷ after → ⊥
no_more [] [] after next last e = absurd (cc)
no_more [] (y ∷ rest) after next last e = absurd (cc)
no_more (x ∷ journal) rest after next last e =
    let less : journal ++ last ∷ [] ≡ (journal ++ last ∷ rest) ++ next ∷ after = cc in
    no_more journal rest after next last less

-- one entry more that is not refused
room_where : (agent : AgentState) (journal before after : List Entry) (next last : Entry) → HasRoom agent journal
    → is_refused_behind agent journal last ≡ false → journal ++ last ∷ [] ≡ before ++ next ∷ after
    → Parts journal before last next → is_refused_behind agent before next ≡ false
room_where agent journal before after next last room kept e (alike same) =
    refused_at agent before journal next last (sym same) (last_is before journal next last after e (sym same)) kept
room_where agent journal before after next last room kept e (shorter rest is) =
    absurd (no_more journal rest after next last (e ∙ ap (λ xs. xs ++ next ∷ after) is))
room_where agent journal before after next last room kept e (longer rest is) = room before rest next is

pub room_more : (agent : AgentState) (journal : List Entry) (last : Entry) → HasRoom agent journal
    → is_refused_behind agent journal last ≡ false → HasRoom agent (journal ++ last ∷ [])
room_more agent journal last room kept before after next e =
    room_where agent journal before after next last room kept e (parts journal before last next [] after e)

-- a journal that is filled is so however it goes on
pub filled_more : (agent : AgentState) (journal part more : List Entry) → IsFilled agent journal part
    → IsFilled agent (journal ++ more) part
filled_more agent journal part more f = record {
  next = f.next;
  others = f.others ++ more;
  begins = ap (λ xs. xs ++ more) f.begins ∙ append_assoc part (f.next ∷ f.others) more;
  room = f.room;
  refused = f.refused;
}

-- in one way, and only where it has no room for all
same_part : (agent : AgentState) (part other : List Entry) (next last : Entry) → HasRoom agent part → HasRoom agent other
    → is_refused_behind agent part next ≡ true → is_refused_behind agent other last ≡ true
    → Parts part other next last → other ≡ part
same_part agent part other next last room place refused full (alike same) = sym same
same_part agent part other next last room place refused full (shorter rest is) =
    absurd (false≢true (sym (place part rest next is) ∙ refused))
same_part agent part other next last room place refused full (longer rest is) =
    absurd (false≢true (sym (room other rest last is) ∙ full))

pub filled_once : FilledOnce
filled_once agent journal part f = (
  λ other g.
      same_part agent part other f.next g.next f.room g.room f.refused g.refused
      (parts part other f.next g.next f.others g.others (sym f.begins ∙ g.begins)),
  λ room. false≢true (sym (room part f.others f.next f.begins) ∙ f.refused),
)

-- Choices that wait, state by state in one list.
use Rattle.std.proofs.Common.{◌≡◌, ℕ, ◌+◌, ◌-◌, ◌<◌, ◌≤◌, Bool, true, false, List, [], ◌∷◌, ◌++◌}
use Rattle.std.proofs.Common.{length, map, take, replicate, get_or, set, refl, sym, ap, ap₂, ◌∙◌, arith, length-append}
use Rattle.std.proofs.lemmas.List.{get_or_default, take_more, length-replicate, map-append, take_all}
use Rattle.mdp_rows.specs.Pieces.{piece, pieces, ArePlaces}
use Rattle.mdp_rows.proofs.{Flat.Pieces.{AreNext, next_places, piece_is, piece_len}, Flat.Growth.{one_place, places-more, pieces-more}}
use Rattle.mdp_graph.specs.{Waiting.{waits, count_waiting}, FlatWaiting.{AreCounted}}
use Rattle.mdp_graph.proofs.FlatPieces.{piece-at, pieces-set, place_after}

-- ---- one choice

pub count_there : (choices : List Bool) (starts counts : List ℕ) (lists : List (List Bool)) (s : ℕ) → AreCounted choices starts counts → pieces choices starts ≡ lists
    → s < length lists → counts ≡ map count_waiting lists
count_there choices starts counts lists s ok view h = ok.counts_are ∙ ap (map count_waiting) view

-- choice c of state s, whose choices start at a
module _ (choices : List Bool) (starts counts : List ℕ) (lists : List (List Bool)) (s c a : ℕ) (ok : AreCounted choices starts counts)
    (view : pieces choices starts ≡ lists) (hs : s < length lists) (hc : c < length (get_or lists s [])) (is : a ≡ get_or starts s a) where
  enough : s + 1 < length starts
  enough = place_after choices starts lists s view hs

  next : AreNext starts (length choices) s a (get_or starts (s + 1) 0)
  next = next_places starts (length choices) s a (get_or starts (s + 1) 0) ok.places enough is (get_or_default starts (s + 1) 0 (get_or starts (s + 1) 0) enough)

  row : piece choices a (get_or starts (s + 1) 0) ≡ get_or lists s []
  row = piece_is choices starts (length choices) s a (get_or starts (s + 1) 0) lists next view

  room : a + c < get_or starts (s + 1) 0
  room = omega (arith, hc, ap length row, piece_len choices a (get_or starts (s + 1) 0) next.within)

  pub choice_there : a + c < length choices
  choice_there = let w = next.within in omega (arith, room, w)

  choice_is : get_or choices (a + c) false ≡ waits lists s c
  choice_is = sym (piece-at choices a (get_or starts (s + 1) 0) c false room) ∙ ap (λ (x : List Bool). get_or x c false) row

  pub choice_read : (read : Bool) → read ≡ get_or choices (a + c) read → read ≡ waits lists s c
  choice_read read e = e ∙ get_or_default choices (a + c) read false choice_there ∙ choice_is

  pub choice_set : (y : Bool) → pieces (set choices (a + c) y) starts ≡ set lists s (set (get_or lists s []) c y)
  choice_set y =
      let first = next.first in
      ap (λ k. pieces (set choices (k + c) y) starts) first ∙ pieces-set choices starts s c y ok.places enough (omega (arith, room, first))
      ∙ ap (λ (v : List (List Bool)). set v s (set (get_or v s []) c y)) view

-- ---- all choices, state by state

pub record AreAll (choices : List Bool) (starts counts : List ℕ) : Type 0 where
  pub places : ArePlaces starts (length choices)
  pub pieces_are : pieces choices starts ≡ map (λ n. replicate n true) counts

pub none_yet : (choices : List Bool) (starts : List ℕ) → choices ≡ [] → starts ≡ 0 ∷ [] → AreAll choices starts []
none_yet choices starts e f = record {
  places = rw (e, f) one_place;
  pieces_are = rw (e, f) refl;
}

pub one_more : (choices new : List Bool) (starts longer counts : List ℕ) (i n len size end : ℕ) → len ≡ length choices → AreAll choices starts (take i counts) → i < length counts → n ≡ get_or counts i n
    → size ≡ len + n → new ≡ take size choices ++ replicate (size - len) true → longer ≡ starts ++ end ∷ [] → end ≡ size → AreAll new longer (take (i + 1) counts)
one_more choices new starts longer counts i n len size end l was h is s e f' same =
    let f : longer ≡ starts ++ size ∷ [] = f' ∙ ap (λ k. starts ++ k ∷ []) same in
    let grown : new ≡ choices ++ replicate n true =
    e ∙ ap₂ (λ (x : List Bool) (k : ℕ). x ++ replicate k true) (take_all size choices (omega arith)) (omega arith) in
    let long : length new ≡ size = ap length grown ∙ length-append choices (replicate n true) ∙ ap (λ k. length choices + k) (length-replicate n true) ∙ omega arith in
    let counts_are : take (i + 1) counts ≡ take i counts ++ n ∷ [] = take_more counts i n h ∙ ap (λ k. take i counts ++ k ∷ []) (sym is) in
    record {
      places = rw (f, long) (places-more starts (length choices) size was.places (omega arith));
      pieces_are =
          ap₂ pieces grown f ∙ pieces-more choices (replicate n true) starts size was.places (sym long ∙ ap length grown)
          ∙ ap (λ (x : List (List Bool)). x ++ replicate n true ∷ []) was.pieces_are
          ∙ sym (ap (map (λ k. replicate k true)) counts_are ∙ map-append (λ k. replicate k true) (take i counts) (n ∷ []));
    }

pub all_there : (choices : List Bool) (starts counts seen : List ℕ) (i : ℕ) → AreAll choices starts (take i seen) → length seen ≤ i → seen ≡ counts
    → pieces choices starts ≡ map (λ n. replicate n true) counts
all_there choices starts counts seen i all h e = all.pieces_are ∙ ap (map (λ n. replicate n true)) (take_all i seen h ∙ e)

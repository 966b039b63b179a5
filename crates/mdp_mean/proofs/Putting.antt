-- Entries that are written from the last one back: where a number stands more than once, the first one's entry is left.
use Rattle.std.proofs.Common.{◌≡◌, ℕ, suc, ◌<◌, Bool, true, false, cond, ◌==◌, List, ◌∷◌, length, get_or, set, drop, refl, sym, ap, ◌∙◌, subst, arith}
use Rattle.std.proofs.{Math.Seq.{drop-cons}, lemmas.Bool.{eqb-true, eq-eqb, false≢true}, lemmas.List.{get_or-set_same, get_or-set_other, length-set}}
use Rattle.mdp_gain.specs.Best.{entry_of}

-- the entries from k on are written
pub record IsPut {A : Type 0} (d : A) (old : List A) (states : List ℕ) (entries : List A) (k : ℕ) (values : List A) : Type 0 where
  pub count : length values ≡ length old
  pub at : (s : ℕ) → get_or values s d ≡ entry_of (get_or old s d) (drop k states) (drop k entries) s

module _ {A : Type 0} (d : A) (old : List A) (states : List ℕ) (entries : List A) (same : length entries ≡ length states)
    (below : (k : ℕ) → k < length states → get_or states k 0 < length old) where
  put-at : (k : ℕ) (values : List A) (x : A) → k < length states → x ≡ get_or entries k d → IsPut d old states entries (suc k) values → (s : ℕ) (b : Bool) → (get_or states k 0 == s) ≡ b
      → get_or (set values (get_or states k 0) x) s d ≡ cond b (get_or entries k d) (entry_of (get_or old s d) (drop (suc k) states) (drop (suc k) entries) s)
  put-at k values x l e p s true is =
      let t : get_or states k 0 ≡ s = eqb-true (get_or states k 0) s is in
      subst (λ v. get_or (set values (get_or states k 0) x) v d ≡ get_or entries k d) t
      (get_or-set_same values (get_or states k 0) x d (omega (arith, below k l, p.count)) ∙ e)
  put-at k values x l e p s false is = get_or-set_other values (get_or states k 0) s x d (λ q. false≢true (sym is ∙ eq-eqb (get_or states k 0) s (sym q))) ∙ p.at s

  pub put-one : (k : ℕ) (values : List A) (x : A) → k < length states → x ≡ get_or entries k d → IsPut d old states entries (suc k) values → IsPut d old states entries k (set values (get_or states k 0) x)
  put-one k values x l e p = record {
    count = length-set values (get_or states k 0) x ∙ p.count;
    at = λ s.
        put-at k values x l e p s (get_or states k 0 == s) refl
        ∙ sym (ap (λ ss. entry_of (get_or old s d) ss (drop k entries) s) (drop-cons states k 0 l)
        ∙ ap (λ xs. entry_of (get_or old s d) (get_or states k 0 ∷ drop (suc k) states) xs s) (drop-cons entries k d (omega (arith, l, same))));
  }

-- What is shown of the words of each claim, and of the lists of their entries.
use Rattle.std.proofs.Common.{◌≡◌, ℕ, List, [], ◌∷◌, length, map, refl, sym, ap, ◌∙◌}
use Rattle.mdp_math.specs.Rational.{ℚ}
use Rattle.mdp_num.specs.Value.{IsNarrow}
use Rattle.mdp_cert.specs.{Claims.{Value, fraction_value}, Pairs.{IsShort, number_value, word_columns, pairs}}
use Rattle.mdp_cert.specs.Entries.{bound_columns, Policy, policy_columns, IsPolicyInWidth, policies, Mean, mean_columns, IsMeanInWidth, means}
use Rattle.mdp_cert.specs.Entries.{Ranked, ranked_columns, IsRankedInWidth, ranked_of, Gains, gains_columns, IsGainsInWidth, gains_of}
use Rattle.mdp_cert.proofs.Columns.{IsColumns, IsValue, fraction-is_value}
use Rattle.mdp_cert.proofs.WordByWord.{number-is_value, word-is_columns, pair-is_columns, both, deeper, as-many}

-- ---- the words

pub bound-is_columns : IsColumns bound_columns IsNarrow
bound-is_columns = word-is_columns fraction_value IsNarrow fraction-is_value

choice-is_columns : IsColumns (word_columns number_value) IsShort
choice-is_columns = word-is_columns number_value IsShort number-is_value

module _ {V : Type 0} (k : Value V) (IsInWidth : V → Type 0) (is : IsValue k IsInWidth) where
  pub policy-is_columns : IsColumns (policy_columns k) (IsPolicyInWidth IsInWidth)
  policy-is_columns = pair-is_columns k IsInWidth is _ _ (pair-is_columns number_value IsShort number-is_value _ _ choice-is_columns)

  pub ranked-is_columns : IsColumns (ranked_columns k) (IsRankedInWidth IsInWidth)
  ranked-is_columns = pair-is_columns k IsInWidth is _ _ policy-is_columns

pub mean-is_columns : IsColumns mean_columns IsMeanInWidth
mean-is_columns =
    pair-is_columns fraction_value IsNarrow fraction-is_value _ _ (pair-is_columns fraction_value IsNarrow fraction-is_value _ _
    (pair-is_columns fraction_value IsNarrow fraction-is_value _ _ choice-is_columns))

pub gains-is_columns : IsColumns gains_columns IsGainsInWidth
gains-is_columns = pair-is_columns fraction_value IsNarrow fraction-is_value _ _ mean-is_columns

-- ---- the lists of entries of lists, and the entries of the lists of entries

-- three lists of so many
module _ {A B C : Type 0} (states : ℕ) (zs : List A) (cs : List B) (rs : List C) where
  pub record ThreeBack : Type 0 where
    pub count : length (pairs zs (pairs cs rs)) ≡ states
    pub first : map (λ x. x.first) (pairs zs (pairs cs rs)) ≡ zs
    pub second : map (λ x. x.others.first) (pairs zs (pairs cs rs)) ≡ cs
    pub third : map (λ x. x.others.others) (pairs zs (pairs cs rs)) ≡ rs

  pub three-back : length zs ≡ states → length cs ≡ states → length rs ≡ states → ThreeBack
  three-back p q r =
      let two = as-many states cs rs q r in
      let c = both cs rs (q ∙ sym r) in
      let l : length zs ≡ length (pairs cs rs) = p ∙ sym two in
      record {
        count = as-many states zs (pairs cs rs) p two;
        first = (both zs (pairs cs rs) l).0;
        second = deeper (λ x. x.first) zs (pairs cs rs) cs l c.0;
        third = deeper (λ x. x.others) zs (pairs cs rs) rs l c.1;
      }

-- four
module _ {A B C D : Type 0} (states : ℕ) (ls : List A) (us : List B) (cs : List C) (rs : List D) where
  pub record Count : Type 0 where
    pub lower : length ls ≡ states
    pub upper : length us ≡ states
    pub choices : length cs ≡ states
    pub ranks : length rs ≡ states

  pub record Back : Type 0 where
    pub count : length (pairs ls (pairs us (pairs cs rs))) ≡ states
    pub lower : map (λ x. x.first) (pairs ls (pairs us (pairs cs rs))) ≡ ls
    pub upper : map (λ x. x.others.first) (pairs ls (pairs us (pairs cs rs))) ≡ us
    pub choices : map (λ x. x.others.others.first) (pairs ls (pairs us (pairs cs rs))) ≡ cs
    pub ranks : map (λ x. x.others.others.others) (pairs ls (pairs us (pairs cs rs))) ≡ rs

  pub back : Count → Back
  back h =
      let b = three-back states us cs rs h.upper h.choices h.ranks in
      let l : length ls ≡ length (pairs us (pairs cs rs)) = h.lower ∙ sym b.count in
      record {
        count = as-many states ls (pairs us (pairs cs rs)) h.lower b.count;
        lower = (both ls (pairs us (pairs cs rs)) l).0;
        upper = deeper (λ x. x.first) ls (pairs us (pairs cs rs)) us l b.first;
        choices = deeper (λ x. x.others.first) ls (pairs us (pairs cs rs)) cs l b.second;
        ranks = deeper (λ x. x.others.others) ls (pairs us (pairs cs rs)) rs l b.third;
      }

-- and five
pub record GainsCount (states : ℕ) (ls us zs bs : List ℚ) (cs : List ℕ) : Type 0 where
  pub lower : length ls ≡ states
  pub upper : length us ≡ states
  pub bounds : length zs ≡ states
  pub biases : length bs ≡ states
  pub choices : length cs ≡ states

pub record GainsBack (states : ℕ) (ls us zs bs : List ℚ) (cs : List ℕ) : Type 0 where
  pub count : length (gains_of ls us zs bs cs) ≡ states
  pub lower : map (λ x. x.first) (gains_of ls us zs bs cs) ≡ ls
  pub upper : map (λ x. x.others.first) (gains_of ls us zs bs cs) ≡ us
  pub bounds : map (λ x. x.others.others.first) (gains_of ls us zs bs cs) ≡ zs
  pub biases : map (λ x. x.others.others.others.first) (gains_of ls us zs bs cs) ≡ bs
  pub choices : map (λ x. x.others.others.others.others) (gains_of ls us zs bs cs) ≡ cs

pub gains-back : (states : ℕ) (ls us zs bs : List ℚ) (cs : List ℕ) → GainsCount states ls us zs bs cs → GainsBack states ls us zs bs cs
gains-back states ls us zs bs cs h =
    let r = back states us zs bs cs (record { lower = h.upper; upper = h.bounds; choices = h.biases; ranks = h.choices }) in
    let w = means us zs bs cs in
    let l : length ls ≡ length w = h.lower ∙ sym r.count in
    record {
      count = as-many states ls w h.lower r.count;
      lower = (both ls w l).0;
      upper = deeper (λ x. x.first) ls w us l r.lower;
      bounds = deeper (λ x. x.others.first) ls w zs l r.upper;
      biases = deeper (λ x. x.others.others.first) ls w bs l r.choices;
      choices = deeper (λ x. x.others.others.others) ls w cs l r.ranks;
    }

pub policies-of : {V : Type 0} (xs : List (Policy V)) → policies (map (λ x. x.first) xs) (map (λ x. x.others.first) xs) (map (λ x. x.others.others) xs) ≡ xs
policies-of [] = refl
policies-of {V} (x ∷ xs) = ap (λ (ys : List (Policy V)). x ∷ ys) (policies-of xs)

pub means-of : (xs : List Mean) → means (map (λ x. x.first) xs) (map (λ x. x.others.first) xs) (map (λ x. x.others.others.first) xs) (map (λ x. x.others.others.others) xs) ≡ xs
means-of [] = refl
means-of (x ∷ xs) = ap (λ (ys : List Mean). x ∷ ys) (means-of xs)

pub ranked-of : {V : Type 0} (xs : List (Ranked V))
    → ranked_of (map (λ x. x.first) xs) (map (λ x. x.others.first) xs) (map (λ x. x.others.others.first) xs) (map (λ x. x.others.others.others) xs) ≡ xs
ranked-of [] = refl
ranked-of {V} (x ∷ xs) = ap (λ (ys : List (Ranked V)). x ∷ ys) (ranked-of xs)

pub gains-of : (xs : List Gains) → gains_of (map (λ x. x.first) xs) (map (λ x. x.others.first) xs) (map (λ x. x.others.others.first) xs) (map (λ x. x.others.others.others.first) xs)
    (map (λ x. x.others.others.others.others) xs) ≡ xs
gains-of [] = refl
gains-of (x ∷ xs) = ap (λ (ys : List Gains). x ∷ ys) (gains-of xs)

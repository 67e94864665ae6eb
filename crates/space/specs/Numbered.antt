-- What it is to find a kind by its number. Assumes nothing.
use Rattle.std.specs.Prelude.{◌≡◌, ℕ, ◌≢◌, Result, MatchResult}
use Rattle.space.specs.declared.unknown.Unknown.{Unknown}

-- the kind that a number stands for, by the number of each; or the number, where it stands for none
abbrev pub KindOf : {K : Type 0} → (K → ℕ) → ℕ → Result K (Unknown ℕ) → Type 0
KindOf {K} number_of number r =
    MatchResult r
    (λ kind. number_of kind ≡ number)
    (λ e. (e.0 ≡ number) × ((kind : K) → number_of kind ≢ number))

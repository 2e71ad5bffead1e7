-- Tests over the numbers below n, how many pass, and lists made of numbers below n.
use Rattle.std.specs.Prelude.{ℕ, zero, suc, ◌+◌, Bool, true, false, ◌&&◌, ◌||◌, List, [], ◌∷◌}

-- a where the test passes, b where it does not
abbrev pub pick : {A : Type 0} → Bool → A → A → A
pick true a b = a
pick false a b = b

abbrev pub implies : Bool → Bool → Bool
implies true b = b
implies false b = true

-- p passes at every number below n
unfoldable pub all : ℕ → (ℕ → Bool) → Bool
all zero p = true
all (suc n) p = all n p && p n

-- p passes at some number below n
unfoldable pub any : ℕ → (ℕ → Bool) → Bool
any zero p = false
any (suc n) p = any n p || p n

-- the lowest number below n at which p passes, or n
unfoldable pub first : ℕ → (ℕ → Bool) → ℕ
first zero p = 0
first (suc n) p = pick (any n p) (first n p) (pick (p n) n (suc n))

-- how many of the numbers below n are tried, from 0 on: up to the first at which p passes, which is tried too, or all
unfoldable pub tried : ℕ → (ℕ → Bool) → ℕ
tried n p = pick (any n p) (first n p + 1) n

-- the total of g 0, g 1, .. g (n - 1)
unfoldable pub total : ℕ → (ℕ → ℕ) → ℕ
total zero g = 0
total (suc n) g = g n + total n g

abbrev pub bit : Bool → ℕ
bit true = 1
bit false = 0

-- how many numbers below n pass p
abbrev pub count : ℕ → (ℕ → Bool) → ℕ
count n p = total n (λ i. bit (p i))

-- the list g 0, g 1, .. g (n - 1)
unfoldable pub tabulate : {A : Type 0} → ℕ → (ℕ → A) → List A
tabulate zero g = []
tabulate (suc n) g = g 0 ∷ tabulate n (λ i. g (suc i))

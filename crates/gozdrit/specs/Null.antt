-- What a call answers that is lent values by pointers which may be null: where nothing lies for one of them, this code, and
-- nothing changes; else what it answers to the values, which lie where they lay.
use Rattle.std.specs.Prelude.{◌≡◌, ℤ, Option, Some, IsSomeAnd}

abbrev pub Answers1 : {A : Type 0} → (null : ℤ) → (A → ℤ → A → Type 0) → Option A → ℤ → Option A → Type 0
Answers1 null Ran (Some a) code a' = IsSomeAnd a' (Ran a code)
Answers1 null Ran a code a' = (code ≡ null) × (a' ≡ a)

abbrev pub Answers2 : {A B : Type 0} → (null : ℤ) → (A → B → ℤ → A → B → Type 0) → Option A → Option B → ℤ → Option A → Option B → Type 0
Answers2 null Ran (Some a) (Some b) code a' b' = IsSomeAnd a' (λ x. IsSomeAnd b' (λ y. Ran a b code x y))
Answers2 null Ran a b code a' b' = (code ≡ null) × (a' ≡ a) × (b' ≡ b)

abbrev pub Answers3 : {A B C : Type 0} → (null : ℤ) → (A → B → C → ℤ → A → B → C → Type 0) → Option A → Option B → Option C → ℤ → Option A → Option B → Option C → Type 0
Answers3 null Ran (Some a) (Some b) (Some c) code a' b' c' = IsSomeAnd a' (λ x. IsSomeAnd b' (λ y. IsSomeAnd c' (λ z. Ran a b c code x y z)))
Answers3 null Ran a b c code a' b' c' = (code ≡ null) × (a' ≡ a) × (b' ≡ b) × (c' ≡ c)

abbrev pub Answers4 : {A B C D : Type 0} → (null : ℤ) → (A → B → C → D → ℤ → A → B → C → D → Type 0)
    → Option A → Option B → Option C → Option D → ℤ → Option A → Option B → Option C → Option D → Type 0
Answers4 null Ran (Some a) (Some b) (Some c) (Some d) code a' b' c' d' =
    IsSomeAnd a' (λ w. IsSomeAnd b' (λ x. IsSomeAnd c' (λ y. IsSomeAnd d' (λ z. Ran a b c d code w x y z))))
Answers4 null Ran a b c d code a' b' c' d' = (code ≡ null) × (a' ≡ a) × (b' ≡ b) × (c' ≡ c) × (d' ≡ d)

abbrev pub Answers5 : {A B C D E : Type 0} → (null : ℤ) → (A → B → C → D → E → ℤ → A → B → C → D → E → Type 0)
    → Option A → Option B → Option C → Option D → Option E → ℤ → Option A → Option B → Option C → Option D → Option E → Type 0
Answers5 null Ran (Some a) (Some b) (Some c) (Some d) (Some e) code a' b' c' d' e' =
    IsSomeAnd a' (λ v. IsSomeAnd b' (λ w. IsSomeAnd c' (λ x. IsSomeAnd d' (λ y. IsSomeAnd e' (λ z. Ran a b c d e code v w x y z)))))
Answers5 null Ran a b c d e code a' b' c' d' e' = (code ≡ null) × (a' ≡ a) × (b' ≡ b) × (c' ≡ c) × (d' ≡ d) × (e' ≡ e)

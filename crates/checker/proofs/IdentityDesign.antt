-- The forecast is reached: for each head within the limits a file of that head takes just the trials of its forecast. It is that of the plain design, whose
-- tables are the identity and whose component j reads share j alone. And what a verdict needs of workspace is just what is forecast. Assumes nothing.
use mathlib.Core.Path.{◌≡◌, refl, sym, ap, ◌∙◌}
use mathlib.Core.Logic.{◌≢◌}
use mathlib.Core.Bool.{Bool, true, false}
use mathlib.Core.List.{List, [], ◌∷◌}
use Prim.Native.Nat.{ℕ, zero, suc, ◌+◌, ◌*◌, ◌/◌, ◌%◌, ◌^◌, ◌≤◌, ◌<◌}
use native.Mathlib.Omega.{arith}
use native.Mathlib.Decide.{ℕ_discrete}
use lib.Pow.{pow_mono, pow_pos}
use native.Mathlib.Nat.{pow-suc}
use lib.Bits.{bit_xor}
use lib.ListN.{length, get_or}
use Rattle.finite.specs.Tests.{pick, bit, tabulate}
use Rattle.finite.specs.Sets.{has, subset}
use Rattle.finite.proofs.Testing.{all_intro, implies_intro, bool_ext, clash, tabulate_length, tabulate_at}
use Rattle.finite.proofs.Elements.{has_is, has_congr, has_power, has_power_other, sets-eq, subset_has, subset_all}
use Rattle.anf.specs.Terms.{value_at}
use Rattle.anf.specs.Tables.{entry, TableFits, Permutation}
use Rattle.records.specs.Design.{Stage, Design, no_stage, stage_of}
use Rattle.records.specs.Encode.{encode}
use Rattle.design.specs.Limits.{WithinLimits}
use Rattle.design.specs.WellFormed.{ListFits, WellFormed}
use Rattle.design.specs.Reading.{means, reading}
use Rattle.design.proofs.Limits.{bounds}
use Rattle.design.proofs.Reasons.{reason_range}
use Rattle.design.proofs.Theorems.{encode_reads}
use Rattle.sharing.specs.Sharing.{sum, share, with_share}
use Rattle.sharing.specs.Stages.{output}
use Rattle.sharing.specs.Chain.{chained}
use Rattle.sharing.proofs.Sharing.{sum_lt, share_with, with_lt}
use Rattle.sharing.proofs.Output.{output_lt, output_bit}
use Rattle.sharing.proofs.Tests.{correct↔, at_correct}
use Rattle.checker.specs.Verdict.{Verdict, workspace_for, verdict}
use Rattle.checker.specs.Trials.{Forecast, trials, forecast}
use Rattle.checker.specs.Accepted.{ChainIsBox, CorrectAt, NonCompleteAt, UniformAt, SoundAt, Accepted, ExplainedDesign, Explained}
use Rattle.checker.specs.Accepted.{fault_8, fault_9, fault_10, fault_12, fault_13, fault_14, accepted, refusal, of_design}
use Rattle.checker.proofs.Exactly.{explained, accepted_exactly, reason_zero}
use Rattle.checker.proofs.Trials.{forecast_reads, trials_accepted}

power_lt : (i n : ℕ) → i < n → 2 ^ i < 2 ^ n
power_lt i n l =
    let more : 2 ^ suc i ≤ 2 ^ n = pow_mono l in
    let twice : 2 ^ suc i ≡ 2 ^ i * 2 = pow-suc 2 i in
    let some : 1 ≤ 2 ^ i = pow_pos i in
    omega (arith, more, twice, some)

-- ---- lists of one term, each of one variable, give the sharing itself

-- a term of one variable is 1 where the point has it
one_variable : (i σ : ℕ) → subset (2 ^ i) σ ≡ has σ i
one_variable i σ = bool_ext _ _ (λ e. subset_has (2 ^ i) σ i e (has_power i)) from
  where
    from : has σ i ≡ true → subset (2 ^ i) σ ≡ true
    from h =
        subset_all (i + 1) (2 ^ i) σ (power_lt i (i + 1) (omega arith))
        ∙ all_intro (i + 1) _ (λ k l. implies_intro _ _ (λ e. at k e (ℕ_discrete k i)))
      where
        at : (k : ℕ) → has (2 ^ i) k ≡ true → Dec (k ≡ i) → has σ k ≡ true
        at k e (yes q) = rw q h
        at k e (no n) = absurd (clash e (has_power_other i k n))

variable_value : (i σ : ℕ) → value_at (2 ^ i ∷ []) σ ≡ σ / 2 ^ i % 2
unfolding value_at
variable_value i σ = ap (λ (b : Bool). bit_xor (pick b 1 0) 0) (one_variable i σ) ∙ same (has σ i) ∙ has_is σ i
  where
    same : (b : Bool) → bit_xor (pick b 1 0) 0 ≡ bit b
    same true = refl
    same false = refl

abbrev variables : ℕ → List (List ℕ)
variables n = tabulate n (λ i. 2 ^ i ∷ [])

output_same : (n σ : ℕ) → σ < 2 ^ n → output (variables n) σ ≡ σ
output_same n σ l =
    let size : length (variables n) ≡ n = tabulate_length n _ in
    sets-eq n (output (variables n) σ) σ (rw size at (output_lt (variables n) σ)) l
    (λ i k. has_congr _ σ i i (output_bit σ i (variables n) ∙ ap (λ (x : List ℕ). value_at x σ) (tabulate_at n _ i [] k) ∙ variable_value i σ))

-- ---- the plain design

module _ (m s k : ℕ) where
  abbrev identity : List ℕ
  identity = tabulate (2 ^ m) (λ x. x)

  abbrev plain_stage : Stage
  plain_stage = record { table = identity; lists = variables (m * s) }

  abbrev pub plain : Design
  plain = record { m = m; s = s; k = k; box = identity; stages = tabulate k (λ t. plain_stage) }

  entry_same : (x : ℕ) → x < 2 ^ m → entry identity x ≡ x
  entry_same x l = tabulate_at (2 ^ m) (λ x. x) x 0 l

  identity_fits : TableFits m identity
  identity_fits = record { size = tabulate_length (2 ^ m) (λ x. x); below = λ x l. rw (entry_same x l) l }

  identity_permutes : Permutation m identity
  identity_permutes i j li lj e = sym (entry_same i li) ∙ e ∙ entry_same j lj

  plain_at : (t : ℕ) → t < k → stage_of plain t ≡ plain_stage
  plain_at t l = tabulate_at k (λ t. plain_stage) t no_stage l

  chain_same : (n x : ℕ) → x < 2 ^ m → chained (tabulate n (λ t. plain_stage)) x ≡ x
  unfolding chained tabulate
  chain_same zero x l = refl
  chain_same (suc n) x l = ap (chained (tabulate n (λ t. plain_stage))) (entry_same x l) ∙ chain_same n x l

  plain_chain : ChainIsBox plain
  plain_chain x l = chain_same k x l ∙ sym (entry_same x l)

  module _ (limits : WithinLimits m s k) where
    some_shares : 3 ≤ s
    some_shares = (bounds m s k limits).s_low

    list_fits : (l : ℕ) → l < m * s → ListFits (m * s) (2 ^ l ∷ [])
    list_fits l h = record {
      size = omega arith;
      terms = record { below = below; rising = λ j r. absurd (omega (arith, r)) };
    }
      where
        below : (j : ℕ) → j < 1 → get_or (2 ^ l ∷ []) j 0 < 2 ^ (m * s)
        below zero r = power_lt l (m * s) h
        below (suc j) r = absurd (omega (arith, r))

    plain_formed : WellFormed plain
    plain_formed = record {
      limits = limits;
      box = identity_fits;
      count = tabulate_length k (λ t. plain_stage);
      stage = λ t l. rw (plain_at t l) (record {
        table = identity_fits;
        count = tabulate_length (m * s) (λ i. 2 ^ i ∷ []);
        list = λ i h. rw (tabulate_at (m * s) (λ i. 2 ^ i ∷ []) i [] h) (list_fits i h);
      });
    }

    -- ---- its stages are sound

    abbrev outputs : ℕ → ℕ
    outputs = output (variables (m * s))

    plain_correct : (t : ℕ) → t < k → CorrectAt plain t
    plain_correct t l =
        rw (plain_at t l)
        ((correct↔ m s plain_stage).0 (at_correct m s plain_stage (λ σ h. ap (sum m s) (output_same (m * s) σ h) ∙ sym (entry_same (sum m s σ) (sum_lt m s σ)))))

    -- component j ignores every other share
    ignored : (j e : ℕ) → e < s → j ≢ e → (σ : ℕ) → σ < 2 ^ (m * s) → (v : ℕ) → v < 2 ^ m
        → share m j (outputs (with_share m e v σ)) ≡ share m j (outputs σ)
    ignored j e le n σ h v k =
        ap (share m j) (output_same (m * s) _ (with_lt m s e v σ le k h)) ∙ share_with m e j v σ n k ∙ sym (ap (share m j) (output_same (m * s) σ h))

    plain_non_complete : (t : ℕ) → t < k → NonCompleteAt plain t
    plain_non_complete t l = rw (plain_at t l) alone
      where
        alone : (j : ℕ) → j < s → (e : ℕ) × (e < s) × ((σ : ℕ) → σ < 2 ^ (m * s) → (v : ℕ) → v < 2 ^ m → share m j (outputs (with_share m e v σ)) ≡ share m j (outputs σ))
        alone zero h = (1, omega (arith, some_shares), ignored 0 1 (omega (arith, some_shares)) (λ z. omega arith))
        alone (suc j) h = (0, omega (arith, some_shares), ignored (suc j) 0 (omega (arith, some_shares)) (λ z. omega arith))

    plain_uniform : (t : ℕ) → t < k → UniformAt plain t
    plain_uniform t l = rw (plain_at t l) (λ x lx τ lτ e. record {
      the = τ;
      below = lτ;
      holds = (e ∙ entry_same x lx, output_same (m * s) τ lτ);
      only = λ σ h p. sym (output_same (m * s) σ h) ∙ p.1;
    })

    plain_sound : (t : ℕ) → t < k → SoundAt plain t
    plain_sound t l = record { correct = plain_correct t l; non_complete = plain_non_complete t l; uniform = plain_uniform t l }

    plain_reads : reading (encode plain) ≡ means plain
    plain_reads = encode_reads plain plain_formed

    -- with workspace enough it is accepted, and takes just the trials of its forecast
    pub plain_accepted : (n : ℕ) → workspace_for m s ≤ n → Accepted (encode plain) n plain
    plain_accepted n room = record {
      reads = plain_reads;
      room = room;
      sound = record { box = identity_permutes; chain = plain_chain; stages = plain_sound };
    }

    plain_trials : (n : ℕ) → workspace_for m s ≤ n → trials (encode plain) n ≡ (forecast (encode plain)).trials
    plain_trials n room =
        let v = (accepted_exactly (encode plain) n k).1 (plain, refl, plain_accepted n room) in
        let r = trials_accepted (encode plain) n (ap (λ (x : Verdict). x.reason) v) in
        r.2 ∙ sym (ap (λ (x : Forecast). x.trials) (forecast_reads (encode plain) r.0 r.1))

-- for every head within the limits some file of that head takes just the forecast's trials
pub forecast_reached : (m s k n : ℕ) → WithinLimits m s k → workspace_for m s ≤ n
    → (f : List ℕ) × (d : Design) × (d.m ≡ m) × (d.s ≡ s) × (d.k ≡ k) × Accepted f n d × (trials f n ≡ (forecast f).trials)
forecast_reached m s k n limits room = (encode (plain m s k), plain m s k, refl, refl, refl, plain_accepted m s k limits n room, plain_trials m s k limits n room)

-- ---- workspace

module _ (f : List ℕ) (n : ℕ) where
  foreseen : (d : Design) → reading f ≡ means d → (forecast f).workspace ≡ workspace_for d.m d.s
  foreseen d e = ap (λ (x : Forecast). x.workspace) (forecast_reads f d e)

  -- with as many bytes as are forecast no verdict is 9
  pub workspace_enough : (forecast f).workspace ≤ n → (verdict f n).reason ≢ 9
  workspace_enough h = of_file (verdict f n) (explained f n)
    where
      of_design_only : (d : Design) → workspace_for d.m d.s ≤ n → (v : Verdict) → ExplainedDesign n d v → v.reason ≢ 9
      of_design_only d r v (fault_8 h) z = omega arith
      of_design_only d r v (fault_9 b l) z = omega (arith, r, l)
      of_design_only d r v (fault_10 b q h) z = omega arith
      of_design_only d r v (fault_12 t q p l h) z = omega arith
      of_design_only d r v (fault_13 t j q p l c k b h) z = omega arith
      of_design_only d r v (fault_14 t q p l c o h) z = omega arith
      of_design_only d r v (accepted q p) z = omega arith

      of_file : (v : Verdict) → Explained f n v → v.reason ≢ 9
      of_file v (refusal r p e w) z = omega (arith, reason_range f r p e)
      of_file v (of_design d e w x) z = of_design_only d (rw (foreseen d e) at h) w x z

  -- and with fewer none is 0
  pub workspace_needed : n < (forecast f).workspace → (verdict f n).reason ≢ 0
  workspace_needed h z = let a = reason_zero f n z in let r = a.1.room in let q = foreseen a.0 a.1.reads in omega (arith, r, q, h)

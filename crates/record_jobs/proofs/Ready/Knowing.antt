-- The flows of a list of touches: no number is given to two keys.
use Rattle.std.proofs.Common.{◌≡◌, ℕ, ◌+◌, ◌<◌, Bool, true, false, cond, ◌||◌, List, [], ◌∷◌, refl, sym, ap, ◌∙◌, subst, inl, inr, ◌⊎◌, arith}
use Rattle.std.proofs.lemmas.Bool.{false≢true}
use Rattle.stream5_sessions.specs.declared.key.Key.{Key}
use Rattle.stream5_sessions.specs.Keys.{same_key}
use Rattle.stream5_sessions.specs.Liveness.{MaxFlows, begun, flow_number, is_live, is_touched}
use Rattle.stream5_sessions.proofs.KeyLaws.{same_key-self, same_key-is}
use Rattle.stream5_sessions.proofs.Liveness.Protocols.{is_touched-live}

-- the flow that a touch of the key has
abbrev pub number_at : MaxFlows → List Key → Key → ℕ
number_at max earlier touch = cond (is_live max earlier touch) (flow_number max earlier touch) (begun max earlier)

pub flow_number-touched : (max : MaxFlows) (earlier : List Key) (touch : Key) → flow_number max (touch ∷ earlier) touch ≡ number_at max earlier touch
flow_number-touched max earlier touch = ap (λ b. cond b (number_at max earlier touch) (flow_number max earlier touch)) (same_key-self touch)

-- at some touch the key had this flow
abbrev pub HadFlow : MaxFlows → List Key → Key → ℕ → Type 0
HadFlow max [] key flow = ⊥
HadFlow max (touch ∷ earlier) key flow = ((key ≡ touch) × (flow ≡ number_at max earlier touch)) ⊎ HadFlow max earlier key flow

-- a touched key had its last flow
had_last : (max : MaxFlows) (touches : List Key) (key : Key) → is_touched touches key ≡ true → HadFlow max touches key (flow_number max touches key)
had_last max [] key h = absurd (false≢true h)
had_last max (touch ∷ earlier) key h = go (had_last max earlier key) (same_key key touch) refl h
  where
    go : (is_touched earlier key ≡ true → HadFlow max earlier key (flow_number max earlier key))
        → (b : Bool) → same_key key touch ≡ b → (b || is_touched earlier key) ≡ true → HadFlow max (touch ∷ earlier) key (cond b (number_at max earlier touch) (flow_number max earlier key))
    go before true same h = inl (same_key-is key touch same, refl)
    go before false same h = inr (before h)

-- a flow that a key had has begun
had_begun : (max : MaxFlows) (touches : List Key) (key : Key) (flow : ℕ) → HadFlow max touches key flow → flow < begun max touches
had_begun max [] key flow h = absurd h
had_begun max (touch ∷ earlier) key flow h =
    go (λ live. had_begun max earlier touch (flow_number max earlier touch)
    (had_last max earlier touch (is_touched-live max earlier touch live)))
    (had_begun max earlier key flow) (is_live max earlier touch) refl h
  where
    go : (is_live max earlier touch ≡ true → flow_number max earlier touch < begun max earlier)
        → (HadFlow max earlier key flow → flow < begun max earlier)
        → (l : Bool)
        → is_live max earlier touch ≡ l
        → ((key ≡ touch) × (flow ≡ cond l (flow_number max earlier touch) (begun max earlier))) ⊎ HadFlow max earlier key flow
        → flow < cond l (begun max earlier) (begun max earlier + 1)
    go last before true live (inl now) = let began = last live in omega (arith, began, now.1)
    go last before true live (inr then) = before then
    go last before false live (inl now) = omega (arith, now.1)
    go last before false live (inr then) = omega (arith, before then)

-- the flow that a touch has, and one that a key had before, are of one key
now_and_then : (max : MaxFlows) (earlier : List Key) (touch other : Key) (flow : ℕ)
    → ((k : Key) → HadFlow max earlier k flow → HadFlow max earlier other flow → k ≡ other)
    → flow ≡ number_at max earlier touch → HadFlow max earlier other flow → touch ≡ other
now_and_then max earlier touch other flow before now then = go (is_live max earlier touch) refl now
  where
    go : (l : Bool) → is_live max earlier touch ≡ l → flow ≡ cond l (flow_number max earlier touch) (begun max earlier) → touch ≡ other
    go true live now = before touch (subst (HadFlow max earlier touch) (sym now) (had_last max earlier touch (is_touched-live max earlier touch live))) then
    go false live now = let began = had_begun max earlier other flow then in absurd (omega (arith, began, now))

-- a flow is of one key
pub had_apart : (max : MaxFlows) (touches : List Key) (one other : Key) (flow : ℕ) → HadFlow max touches one flow → HadFlow max touches other flow → one ≡ other
had_apart max [] one other flow h g = absurd h
had_apart max (touch ∷ earlier) one other flow (inl h) (inl g) = h.0 ∙ sym g.0
had_apart max (touch ∷ earlier) one other flow (inl h) (inr g) = h.0 ∙ now_and_then max earlier touch other flow (λ k. had_apart max earlier k other flow) h.1 g
had_apart max (touch ∷ earlier) one other flow (inr h) (inl g) = sym (g.0 ∙ now_and_then max earlier touch one flow (λ k. had_apart max earlier k one flow) g.1 h)
had_apart max (touch ∷ earlier) one other flow (inr h) (inr g) = had_apart max earlier one other flow h g

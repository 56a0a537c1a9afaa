-- What is made while a run is prepared, with one more client or one more shard.
use Rattle.std.proofs.Common.{◌≡◌, ℕ, ◌+◌, ◌-◌, ◌*◌, ◌<◌, ◌≤◌, Bool, false, cond, eqb, List, [], ◌∷◌, ◌++◌, length, drop, get_or, refl, ap, sym, ◌∙◌, subst, inl, inr, arith, length-append, get_or-set_same, get_or-set_other}
use Rattle.std.specs.Prelude.{All, slice_set}
use Rattle.std.proofs.lemmas.Bool.{cases_lt, cases_eq, ne_eqb}
use Rattle.std.proofs.lemmas.List.{length-map, map-append, get_or_append_left, get_or_push, get_or_default}
use Rattle.std.proofs.lemmas.List.Sums.{sum_by_push, sum_by-drop_more, sum_by-le}
use Rattle.ticket_clock.specs.Seats.{times}
use Rattle.post_box.specs.Boxes.{BoxView, WholeView}
use Rattle.stale_model.specs.declared.store.PlanCall.{PlanCall}
use Rattle.stale_model.specs.declared.store.Plan.{Plan}
use Rattle.stale_model.specs.declared.store.Settings.{Settings}
use Rattle.stale_model.specs.Settings.{calls_of}
use Rattle.key_recorder.specs.declared.letters.RecordLetter.{RecordLetter}
use Rattle.key_recorder.specs.Recorders.{LaneView, PassView, LogView}
use Rattle.key_recorder.specs.Prepared.{budget_on, budgets_on, IsFirstLane, first_log, IsPrepared}
use Rattle.key_recorder.specs.Making.{AreFew, IsMade, first_lane, with_lane}

-- a whole whose budget and numbers alone changed
pub kept : (fw w nw : WholeView RecordLetter) (b : ℕ) (ns : List ℕ) → w ≡ record fw { budget = w.budget; numbers = w.numbers } → nw ≡ record w { budget = b; numbers = ns }
    → nw ≡ record fw { budget = nw.budget; numbers = nw.numbers }
kept fw w nw b ns was is =
    subst (λ (v : WholeView RecordLetter). v ≡ record fw { budget = v.budget; numbers = v.numbers }) (sym is)
    (ap (λ (v : WholeView RecordLetter). let r : WholeView RecordLetter = record v { budget = b; numbers = ns } in r) was)

-- numbers past the one that was given out last were not given out
pub none_more : (c s : ℕ) (xs : List ℕ) → c + 1 ≤ s → times s xs ≡ 0 → times s (xs ++ c ∷ []) ≡ 0
none_more c s xs past none =
    let apart : eqb c s ≡ false = ne_eqb c s (λ e. omega arith) in
    sum_by_push (λ (y : ℕ). cond (eqb y s) 1 0) xs c ∙ (ap (λ (b : Bool). times s xs + cond b 1 0) apart ∙ omega (arith, none))

-- what holds at each place, after one more
pub places_more : {X : Type 0} (P : ℕ → X → Type 0) (xs : List X) (x : X) (n : ℕ) → length xs ≡ n → ((k : ℕ) (d : X) → k < n → P k (get_or xs k d)) → P n x
    → (k : ℕ) (d : X) → k < n + 1 → P k (get_or (xs ++ x ∷ []) k d)
places_more P xs x n long each here k d less = elim (cases_lt k n) [
  | inl below ↦ subst (P k) (sym (get_or_append_left xs (x ∷ []) d k (omega (arith, long)))) (each k d below)
  | inr above ↦
      let same : n ≡ k = omega arith in
      subst (λ (j : ℕ). P j (get_or (xs ++ x ∷ []) j d)) same (subst (P n) (sym (get_or_push xs x d n long)) here)
]

-- a pass with one lane more
pub made_more : (shards : ℕ) (calls : List PlanCall) (boxes : List BoxView) (box : BoxView) (client : ℕ) (p q : PassView) → IsMade shards calls boxes client p
    → q ≡ with_lane (first_lane box (budget_on shards (length boxes) calls)) p → IsMade shards calls (boxes ++ box ∷ []) client q
made_more shards calls boxes box client p q made is =
    let lane = first_lane box (budget_on shards (length boxes) calls) in
    let many : length p.lanes ≡ length boxes =
    sym (length-map p.lanes (λ (l : LaneView). l.box)) ∙ ap (λ (l : List BoxView). length l) made.own
    in
    subst (IsMade shards calls (boxes ++ box ∷ []) client) (sym is) (record {
      client_is = made.client_is;
      not_closed = made.not_closed;
      own = map-append (λ (l : LaneView). l.box) p.lanes (lane ∷ []) ∙ ap (λ (l : List BoxView). l ++ box ∷ []) made.own;
      each = λ k l less.
          places_more (λ (j : ℕ) (v : LaneView). IsFirstLane (budget_on shards j calls) v) p.lanes lane (length boxes) many made.each
          (record { sent = refl; left = refl; here = refl }) k l (omega (arith, length-append boxes (box ∷ [])));
    })

-- what was made for all shards is what is prepared
pub prepared : (settings : Settings) (plan : Plan) (boxes : List BoxView) (ps : List PassView) (gs : List LogView) → length boxes ≡ settings.shards
    → ((k : ℕ) (b : BoxView) → k < settings.shards → (get_or boxes k b).capacity ≡ budgets_on settings.shards k plan.clients) → length ps ≡ settings.clients
    → ((c : ℕ) (p : PassView) → c < settings.clients → IsMade settings.shards (calls_of plan c) boxes c (get_or ps c p)) → length gs ≡ settings.shards
    → ((k : ℕ) (b : BoxView) (g : LogView) → k < settings.shards → get_or gs k g ≡ first_log settings.clients k (get_or boxes k b))
    → IsPrepared settings plan (record { boxes = boxes }) ps gs
prepared settings plan boxes ps gs many room passes made logs each = record {
  boxes = many;
  room = room;
  as_many_passes = passes;
  own = λ c p less. (made c p less).own;
  passes = λ c p less.
      let m = made c p less in
      record {
        client_is = m.client_is;
        not_closed = m.not_closed;
        as_many = sym (length-map (get_or ps c p).lanes (λ (l : LaneView). l.box)) ∙ (ap (λ (l : List BoxView). length l) m.own ∙ many);
        each = λ k l within. m.each k l (omega (arith, many));
      };
  as_many_logs = logs;
  logs = each;
}

-- plans of as many calls each are few
pub few_plans : (clients calls : ℕ) (plans : List (List PlanCall)) → length plans ≡ clients → 1 ≤ clients → clients ≤ 32 → clients * calls ≤ 100000
    → ((c : ℕ) → c < clients → length (get_or plans c []) ≡ calls) → AreFew plans
few_plans clients calls plans many some most product each = record {
  few =
      let all : All (λ (xs : List PlanCall). length xs ≤ calls) plans =
      λ k d less.
      let same = ap (λ (xs : List PlanCall). length xs) (get_or_default plans k d [] less) in
      let e = each k (omega (arith, many, less)) in omega (arith, same, e)
      in
      let sum = sum_by-le (λ (xs : List PlanCall). length xs) calls plans all in
      let times : length plans * calls ≡ clients * calls = ap (λ (n : ℕ). n * calls) many in omega (arith, sum, times, product);
  some = omega (arith, many, some);
  clients = omega (arith, many, most);
}

-- the lanes that were given, with one client more, and the passes that are to come
pub given_more : (lane : ℕ → LaneView) (old now : List PassView) (client clients : ℕ) (y z : PassView) → length now ≡ clients → client < clients → z ≡ get_or now client z
    → y ≡ with_lane (lane client) z → ((c : ℕ) (p : PassView) → c < client → get_or now c p ≡ with_lane (lane c) (get_or old c p))
    → ((c : ℕ) (p : PassView) → client ≤ c → c < clients → get_or now c p ≡ get_or old c p)
    → ((c : ℕ) (p : PassView) → c < client + 1 → get_or (slice_set now client y) c p ≡ with_lane (lane c) (get_or old c p))
    × ((c : ℕ) (p : PassView) → client + 1 ≤ c → c < clients → get_or (slice_set now client y) c p ≡ get_or old c p)
given_more lane old now client clients y z long less read is done rest = (
  λ c p within. elim (cases_eq c client) [
    | inl same ↦
        let here : get_or (slice_set now client y) client p ≡ y = get_or-set_same now client y p (omega (arith, long)) in
        let was : z ≡ get_or old client p = read ∙ (get_or_default now client z p (omega (arith, long)) ∙ rest client p (omega arith) less) in
        let now_is : get_or (slice_set now client y) client p ≡ with_lane (lane client) (get_or old client p) =
        here ∙ (is ∙ ap (with_lane (lane client)) was)
        in
        subst (λ (k : ℕ). get_or (slice_set now client y) k p ≡ with_lane (lane k) (get_or old k p)) (sym same) now_is
    | inr apart ↦ get_or-set_other now client c y p apart ∙ done c p (omega arith)
  ],
  λ c p from within. get_or-set_other now client c y p (λ same. omega arith) ∙ rest c p (omega arith) within,
)

-- what is left of a budget after one client
pub left_more : (shards shard : ℕ) (plans : List (List PlanCall)) (client left now given : ℕ) → client < length plans → left ≡ budgets_on shards shard (drop client plans)
    → given ≡ budget_on shards shard (get_or plans client []) → now ≡ left - given → now ≡ budgets_on shards shard (drop (client + 1) plans)
left_more shards shard plans client left now given less is gives after =
    let sum = sum_by-drop_more (budget_on shards shard) plans client [] less in
    let all : left ≡ given + budgets_on shards shard (drop (client + 1) plans) =
    is ∙ (sum ∙ ap (λ (n : ℕ). n + budgets_on shards shard (drop (client + 1) plans)) (sym gives))
    in
    omega (arith, all, after)

-- the passes, with the lanes to one shard more
pub passes_more : (shards clients shard : ℕ) (plans : List (List PlanCall)) (boxes : List BoxView) (box : BoxView) (old now : List PassView) → length boxes ≡ shard → length plans ≡ clients
    → ((c : ℕ) (p : PassView) → c < clients → IsMade shards (get_or plans c []) boxes c (get_or old c p))
    → ((c : ℕ) (p : PassView) → c < length plans → get_or now c p ≡ with_lane (first_lane box (budget_on shards shard (get_or plans c []))) (get_or old c p))
    → (c : ℕ) (p : PassView) → c < clients → IsMade shards (get_or plans c []) (boxes ++ box ∷ []) c (get_or now c p)
passes_more shards clients shard plans boxes box old now long many made given c p less =
    made_more shards (get_or plans c []) boxes box c (get_or old c p) (get_or now c p) (made c p less)
    (subst (λ (n : ℕ). get_or now c p ≡ with_lane (first_lane box (budget_on shards n (get_or plans c []))) (get_or old c p)) (sym long) (given c p (omega arith)))

-- the logs, with that of one shard more
pub logs_more : (clients shard : ℕ) (boxes : List BoxView) (box : BoxView) (gs : List LogView) (g : LogView) → length boxes ≡ shard → length gs ≡ shard
    → ((k : ℕ) (b : BoxView) (d : LogView) → k < shard → get_or gs k d ≡ first_log clients k (get_or boxes k b)) → g ≡ first_log clients shard box
    → (k : ℕ) (b : BoxView) (d : LogView) → k < shard + 1 → get_or (gs ++ g ∷ []) k d ≡ first_log clients k (get_or (boxes ++ box ∷ []) k b)
logs_more clients shard boxes box gs g long many each is k b d less = elim (cases_lt k shard) [
  | inl below ↦
      get_or_append_left gs (g ∷ []) d k (omega (arith, many))
      ∙ (each k b d below ∙ ap (first_log clients k) (sym (get_or_append_left boxes (box ∷ []) b k (omega (arith, long)))))
  | inr above ↦
      let same : shard ≡ k = omega arith in
      let here : get_or (gs ++ g ∷ []) shard d ≡ first_log clients shard (get_or (boxes ++ box ∷ []) shard b) =
      get_or_push gs g d shard many ∙ (is ∙ ap (first_log clients shard) (sym (get_or_push boxes box b shard long)))
      in
      subst (λ (j : ℕ). get_or (gs ++ g ∷ []) j d ≡ first_log clients j (get_or (boxes ++ box ∷ []) j b)) same here
]

-- the boxes, with that of one shard more
pub room_more : (shards shard : ℕ) (plans : List (List PlanCall)) (boxes : List BoxView) (box : BoxView) → length boxes ≡ shard
    → ((k : ℕ) (b : BoxView) → k < shard → (get_or boxes k b).capacity ≡ budgets_on shards k plans) → box.capacity ≡ budgets_on shards shard plans
    → (k : ℕ) (b : BoxView) → k < shard + 1 → (get_or (boxes ++ box ∷ []) k b).capacity ≡ budgets_on shards k plans
room_more shards shard plans boxes box long each here = places_more (λ (k : ℕ) (b : BoxView). b.capacity ≡ budgets_on shards k plans) boxes box shard long each here

-- Whole runs of driver calls keep every list in order.
use Rattle.std.proofs.Common.{◌≡◌, ℕ, Bool, true, false, List, [], ◌∷◌, ◌++◌, Option, Some, None, sym, refl, ap, ◌∙◌, subst, append_assoc, append-nil}
use Rattle.item.specs.declared.Item.{Item}
use Rattle.item.specs.declared.Item.TheVariants.{Byte, End, Note}
use Rattle.item.specs.declared.Band.{Band}
use Rattle.item.specs.declared.Band.TheVariants.{Records, Echo}
use Rattle.driver.specs.Line.{Line, band, with_waiting, with_band, with_begun, begun_after, chosen_from, after_sent}
use Rattle.driver.specs.Calls.{Sent}
use Rattle.runs.specs.Runs.{Event, Call, arrives, arrives_not, fetches, fetches_none, offers, offers_not, sends, sends_not, Run, none, then, of, offered_to, sent_from, back, arrived_in, fetched_in, on_line, NoEnd, Unmixed, IsStarted, InOrder}

-- what a change of one part leaves of the bands
band_waiting : (l : Line) (w : Band) (xs : List Item) → band (with_waiting l xs) w ≡ band l w
band_waiting l Records xs = refl
band_waiting l Echo xs = refl

band_begun : (l : Line) (w : Band) (b : Option Band) → band (with_begun l b) w ≡ band l w
band_begun l Records b = refl
band_begun l Echo b = refl

-- one more at the end of a list goes on with the rest
one_more : (xs : List Item) (x : Item) (rest : List Item) → (xs ++ (x ∷ [])) ++ rest ≡ xs ++ (x ∷ rest)
one_more xs x rest = append_assoc xs (x ∷ []) rest

-- one call, at a band
at_offer : (l : Line) (w v : Band) (x : Item) (rest : List Item) → band (with_band l v (band l v ++ (x ∷ []))) w ++ rest ≡ band l w ++ (of w v x ++ rest)
at_offer l Records Records x rest = one_more l.records x rest
at_offer l Records Echo x rest = refl
at_offer l Echo Records x rest = refl
at_offer l Echo Echo x rest = one_more l.echo x rest

at_send : (l : Line) (w v : Band) (x : Item) (ys : List Item) → band l v ≡ x ∷ ys → band l w ≡ of w v x ++ band (with_band l v ys) w
at_send l Records Records x ys e = e
at_send l Records Echo x ys e = refl
at_send l Echo Records x ys e = refl
at_send l Echo Echo x ys e = e

after_send : (l m : Line) (w v : Band) (x : Item) → Sent l v x m → band l w ≡ of w v x ++ band m w
after_send l m w v x s =
    let k = with_band l v (band m v) in
    let g = with_begun k (begun_after l.begun v x) in
    let e : band m w ≡ band k w = ap (λ (n : Line). band n w) s.left ∙ band_waiting g w (after_sent l.loops l.waiting x) ∙ band_begun k w (begun_after l.begun v x) in
    at_send l w v x (band m v) s.first ∙ ap (λ (ys : List Item). of w v x ++ ys) (sym e)

-- a list that a call leaves as it is
keep : (xs ys rest out : List Item) → ys ≡ xs → ys ++ rest ≡ out → xs ++ rest ≡ out
keep xs ys rest out e all = ap (λ (zs : List Item). zs ++ rest) (sym e) ∙ all

at_call : {D : Type 0} (line : D → Line) (w : Band) (a : D) (e : Event) (m : D) (es : List Event) (tail : List Item) → Call line a e m →
    band (line m) w ++ offered_to w es ≡ sent_from w es ++ tail → band (line a) w ++ offered_to w (e ∷ es) ≡ sent_from w (e ∷ es) ++ tail
at_call line w a _ m es tail (arrives xs _ p) all = keep _ _ _ _ (ap (λ (l : Line). band l w) p.1 ∙ band_waiting (line a) w ((line a).waiting ++ xs)) all
at_call {D} line w a _ m es tail (arrives_not xs e _ p) all = keep _ _ _ _ (ap (λ (d : D). band (line d) w) p.2) all
at_call line w a _ m es tail (fetches x _ p) all = keep _ _ _ _ (ap (λ (l : Line). band l w) p.1 ∙ band_waiting (line a) w (line m).waiting) all
at_call {D} line w a _ m es tail (fetches_none _ p) all = keep _ _ _ _ (ap (λ (d : D). band (line d) w) p.1) all
at_call line w a _ m es tail (offers v x _ p) all =
    sym (at_offer (line a) w v x (offered_to w es)) ∙ ap (λ (l : Line). band l w ++ offered_to w es) (sym p.1) ∙ all
at_call {D} line w a _ m es tail (offers_not v x e _ p) all = keep _ _ _ _ (ap (λ (d : D). band (line d) w) p.2) all
at_call line w a _ m es tail (sends v x _ p) all =
    ap (λ (zs : List Item). zs ++ offered_to w es) (after_send (line a) (line m) w v x p)
    ∙ append_assoc (of w v x) (band (line m) w) (offered_to w es)
    ∙ ap (λ (zs : List Item). of w v x ++ zs) all
    ∙ sym (append_assoc (of w v x) (sent_from w es) tail)
at_call {D} line w a _ m es tail (sends_not e _ p) all = keep _ _ _ _ (ap (λ (d : D). band (line d) w) p.1) all

kept_band : {D : Type 0} (line : D → Line) (w : Band) (a : D) (es : List Event) (b : D) → Run line a es b → band (line a) w ++ offered_to w es ≡ sent_from w es ++ band (line b) w
kept_band line w a _ _ (none _) = append-nil (band (line a) w)
kept_band line w a _ b (then _ e m es _ c r) = at_call line w a e m es (band (line b) w) c (kept_band line w m es b r)

-- what waits: only arrivals, fetches and what comes back on a loop change it
waiting_band : (l : Line) (w : Band) (xs : List Item) → (with_band l w xs).waiting ≡ l.waiting
waiting_band l Records xs = refl
waiting_band l Echo xs = refl

loops_band : (l : Line) (w : Band) (xs : List Item) → (with_band l w xs).loops ≡ l.loops
loops_band l Records xs = refl
loops_band l Echo xs = refl

begun_band : (l : Line) (w : Band) (xs : List Item) → (with_band l w xs).begun ≡ l.begun
begun_band l Records xs = refl
begun_band l Echo xs = refl

came_back : (loops : Bool) (xs : List Item) (x : Item) → after_sent loops xs x ≡ xs ++ back loops x
came_back false xs x = sym (append-nil xs)
came_back true xs (Byte b) = refl
came_back true xs End = sym (append-nil xs)
came_back true xs (Note k) = refl

same_loops : {D : Type 0} (line : D → Line) (a : D) (e : Event) (m : D) → Call line a e m → (line m).loops ≡ (line a).loops
same_loops line a _ m (arrives xs _ p) = ap (λ (l : Line). l.loops) p.1
same_loops {D} line a _ m (arrives_not xs e _ p) = ap (λ (d : D). (line d).loops) p.2
same_loops line a _ m (fetches x _ p) = ap (λ (l : Line). l.loops) p.1
same_loops {D} line a _ m (fetches_none _ p) = ap (λ (d : D). (line d).loops) p.1
same_loops line a _ m (offers v x _ p) = ap (λ (l : Line). l.loops) p.1 ∙ loops_band (line a) v (band (line a) v ++ (x ∷ []))
same_loops {D} line a _ m (offers_not v x e _ p) = ap (λ (d : D). (line d).loops) p.2
same_loops line a _ m (sends v x _ p) = ap (λ (l : Line). l.loops) p.left ∙ loops_band (line a) v (band (line m) v)
same_loops {D} line a _ m (sends_not e _ p) = ap (λ (d : D). (line d).loops) p.1

at_waiting : {D : Type 0} (line : D → Line) (a : D) (e : Event) (m : D) (es : List Event) (tail : List Item) (loops : Bool) → loops ≡ (line a).loops → Call line a e m →
    (line m).waiting ++ arrived_in loops es ≡ fetched_in es ++ tail → (line a).waiting ++ arrived_in loops (e ∷ es) ≡ fetched_in (e ∷ es) ++ tail
at_waiting line a _ m es tail loops o (arrives xs _ p) all =
    sym (append_assoc (line a).waiting xs (arrived_in loops es)) ∙ ap (λ (l : Line). l.waiting ++ arrived_in loops es) (sym p.1) ∙ all
at_waiting {D} line a _ m es tail loops o (arrives_not xs e _ p) all = keep _ _ _ _ (ap (λ (d : D). (line d).waiting) p.2) all
at_waiting line a _ m es tail loops o (fetches x _ p) all =
    ap (λ (zs : List Item). zs ++ arrived_in loops es) p.0 ∙ ap (λ (zs : List Item). x ∷ zs) all
at_waiting {D} line a _ m es tail loops o (fetches_none _ p) all = keep _ _ _ _ (ap (λ (d : D). (line d).waiting) p.1) all
at_waiting line a _ m es tail loops o (offers v x _ p) all =
    keep _ _ _ _ (ap (λ (l : Line). l.waiting) p.1 ∙ waiting_band (line a) v (band (line a) v ++ (x ∷ []))) all
at_waiting {D} line a _ m es tail loops o (offers_not v x e _ p) all = keep _ _ _ _ (ap (λ (d : D). (line d).waiting) p.2) all
at_waiting line a _ m es tail loops o (sends v x _ p) all =
    let e : (line m).waiting ≡ (line a).waiting ++ back loops x =
    ap (λ (l : Line). l.waiting) p.left ∙ ap (λ (k : Bool). after_sent k (line a).waiting x) (sym o) ∙ came_back loops (line a).waiting x
    in
    sym (append_assoc (line a).waiting (back loops x) (arrived_in loops es)) ∙ ap (λ (zs : List Item). zs ++ arrived_in loops es) (sym e) ∙ all
at_waiting {D} line a _ m es tail loops o (sends_not e _ p) all = keep _ _ _ _ (ap (λ (d : D). (line d).waiting) p.1) all

kept_waiting : {D : Type 0} (line : D → Line) (a : D) (es : List Event) (b : D) (loops : Bool) → loops ≡ (line a).loops → Run line a es b →
    (line a).waiting ++ arrived_in loops es ≡ fetched_in es ++ (line b).waiting
kept_waiting line a _ _ loops o (none _) = append-nil (line a).waiting
kept_waiting line a _ b loops o (then _ e m es _ c r) =
    at_waiting line a e m es (line b).waiting loops o c (kept_waiting line m es b loops (o ∙ sym (same_loops line a e m c)) r)

-- between a record's first byte and its END only its own band goes out
abbrev Keeps : Option Band → List (Band × Item) → Type 0
Keeps begun [] = Unit {0}
Keeps None ((w, x) ∷ s) = Keeps (begun_after None w x) s
Keeps (Some v) ((w, x) ∷ s) = (w ≡ v) × Keeps (begun_after (Some v) w x) s

sent_next : (begun : Option Band) (echo : List Item) (w : Band) (x : Item) (s : List (Band × Item)) → w ≡ chosen_from begun echo → Keeps (begun_after begun w x) s → Keeps begun ((w, x) ∷ s)
sent_next None echo w x s c k = k
sent_next (Some v) echo w x s c k = (c, k)

moved : (b c : Option Band) (s : List (Band × Item)) → b ≡ c → Keeps b s → Keeps c s
moved b c s e k = subst (λ (z : Option Band). Keeps z s) e k

at_line : {D : Type 0} (line : D → Line) (a : D) (e : Event) (m : D) (es : List Event) → Call line a e m → Keeps (line m).begun (on_line es) → Keeps (line a).begun (on_line (e ∷ es))
at_line line a _ m es (arrives xs _ p) k = moved _ _ (on_line es) (ap (λ (l : Line). l.begun) p.1) k
at_line {D} line a _ m es (arrives_not xs e _ p) k = moved _ _ (on_line es) (ap (λ (d : D). (line d).begun) p.2) k
at_line line a _ m es (fetches x _ p) k = moved _ _ (on_line es) (ap (λ (l : Line). l.begun) p.1) k
at_line {D} line a _ m es (fetches_none _ p) k = moved _ _ (on_line es) (ap (λ (d : D). (line d).begun) p.1) k
at_line line a _ m es (offers v x _ p) k = moved _ _ (on_line es) (ap (λ (l : Line). l.begun) p.1 ∙ begun_band (line a) v (band (line a) v ++ (x ∷ []))) k
at_line {D} line a _ m es (offers_not v x e _ p) k = moved _ _ (on_line es) (ap (λ (d : D). (line d).begun) p.2) k
at_line line a _ m es (sends v x _ p) k =
    sent_next (line a).begun (line a).echo v x (on_line es) p.chose (moved _ _ (on_line es) (ap (λ (l : Line). l.begun) p.left) k)
at_line {D} line a _ m es (sends_not e _ p) k = moved _ _ (on_line es) (ap (λ (d : D). (line d).begun) p.1) k

kept_line : {D : Type 0} (line : D → Line) (a : D) (es : List Event) (b : D) → Run line a es b → Keeps (line a).begun (on_line es)
kept_line line a _ _ (none _) = tt
kept_line line a _ b (then _ e m es _ c r) = at_line line a e m es c (kept_line line m es b r)

-- an item that goes out with no END since a byte of a band is of that band
under : (w : Band) (between after : List (Band × Item)) (v : Band) (x : Item) → NoEnd between → Keeps (Some w) (between ++ ((v, x) ∷ after)) → v ≡ w
under w [] after v x n k = k.0
under w ((u, Byte c) ∷ s) after v x n k = under u s after v x n k.1 ∙ k.0
under w ((u, End) ∷ s) after v x n k = absurd n
under w ((u, Note j) ∷ s) after v x n k = under w s after v x n k.1

begins : (begun : Option Band) (before : List (Band × Item)) (w : Band) (c : ℕ) (rest : List (Band × Item)) → Keeps begun (before ++ ((w, Byte c) ∷ rest)) → Keeps (Some w) rest
begins None [] w c rest k = k
begins (Some v) [] w c rest k = k.1
begins None ((u, y) ∷ t) w c rest k = begins (begun_after None u y) t w c rest k
begins (Some v) ((u, y) ∷ t) w c rest k = begins (begun_after (Some v) u y) t w c rest k.1

unmixed : (begun : Option Band) (s : List (Band × Item)) → Keeps begun s → Unmixed s
unmixed begun s k before between after w v c x e n =
    under w between after v x n (begins begun before w c (between ++ ((v, x) ∷ after)) (subst (λ (z : List (Band × Item)). Keeps begun z) e k))

empty_band : (l : Line) (w : Band) → IsStarted l → band l w ≡ []
empty_band l Records e = ap (λ (k : Line). k.records) e
empty_band l Echo e = ap (λ (k : Line). k.echo) e

pub in_order : {D : Type 0} (line : D → Line) → InOrder line
in_order line a b es started run =
    record {
      bands = λ w. ap (λ (zs : List Item). zs ++ offered_to w es) (sym (empty_band (line a) w started)) ∙ kept_band line w a es b run;
      waiting = ap (λ (l : Line). l.waiting ++ arrived_in (line a).loops es) (sym started) ∙ kept_waiting line a es b (line a).loops refl run;
      unmixed = unmixed (line a).begun (on_line es) (kept_line line a es b run);
    }

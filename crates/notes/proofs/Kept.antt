-- Each lane, item by item.
use Rattle.std.proofs.Common.{ℕ, ◌-◌, ◌<◌, Bool, true, false, eqb, ltb, List, [], ◌∷◌, ◌++◌, map, length, take, Some, None, Option, arith}
use Rattle.std.proofs.lemmas.Bool.{cond_both}
use Rattle.item.specs.declared.Item.{Item}
use Rattle.item.specs.declared.Item.TheVariants.{Byte, End, Note}
use Rattle.lane.specs.Rule.{Rule, Held}
use Rattle.lane.specs.Reply.{Both, onward, back}
use Rattle.lane.specs.Lists.{stepped}
use Rattle.case_mapper.specs.Case as mapper
use Rattle.framer.specs.Frame as framer
use Rattle.framer.specs.Frame.{Place, hunting, body, escaped}
use Rattle.disciplines.specs.Canonical as canonical
use Rattle.notes.specs.Notes.{Proper, AllProper, NotesKept}

joined : (xs ys : List Item) → AllProper xs → AllProper ys → AllProper (xs ++ ys)
joined [] ys p q = q
joined (x ∷ xs) ys p q = (p.0, joined xs ys p.1 q)

-- step by step, if each step keeps to proper items
from_state : {S : Type 0} (rule : Rule S) → ((s : S) (x : Item) → Proper x → AllProper (rule.does s x).ready) → (s : S) (xs : List Item) → AllProper xs → AllProper (stepped rule s xs)
from_state rule one s [] p = tt
from_state rule one s (x ∷ xs) p = joined (rule.does s x).ready _ (one s x p.0) (from_state rule one (rule.does s x).state xs p.1)

all_bytes : (bs : List ℕ) → AllProper (map Byte bs)
all_bytes [] = tt
all_bytes (b ∷ bs) = (tt, all_bytes bs)

-- bytes and what ends them
ended : (bs : List ℕ) (ys : List Item) → AllProper ys → AllProper (map Byte bs ++ ys)
ended bs ys p = joined (map Byte bs) ys (all_bytes bs) p

-- the case mapper
signed : (o : Option ℕ) (c : ℕ) → AllProper (mapper.signed o c)
signed (Some s) c = (tt, (tt, tt))
signed None c = (tt, tt)

unsigned : (o : Option ℕ) (c : ℕ) → AllProper (mapper.unsigned o c)
unsigned (Some s) c = (tt, tt)
unsigned None c = (tt, (tt, tt))

mapper_down : (s : Unit {0}) (x : Item) → Proper x → AllProper ((mapper.down_rule).does s x).ready
mapper_down s (Byte c) p =
    cond_both (mapper.small c) _ _ AllProper (λ _. (tt, tt)) (λ _. cond_both (mapper.capital c) _ _ AllProper (λ _. (tt, (tt, tt))) (λ _. signed _ c))
mapper_down s End p = (tt, tt)
mapper_down s (Note k) p = (p, tt)

mapper_up : (s : Bool) (x : Item) → Proper x → AllProper ((mapper.up_rule).does s x).ready
mapper_up false (Byte c) p =
    cond_both (eqb c mapper.backslash) _ _ AllProper (λ _. tt) (λ _. cond_both (mapper.capital c) _ _ AllProper (λ _. (tt, tt)) (λ _. (tt, tt)))
mapper_up false End p = (tt, tt)
mapper_up false (Note k) p = (p, tt)
mapper_up true (Byte c) p =
    cond_both (mapper.small c) _ _ AllProper (λ _. (tt, tt)) (λ _. cond_both (mapper.capital c) _ _ AllProper (λ _. (tt, tt)) (λ _. unsigned _ c))
mapper_up true End p = (tt, (tt, tt))
mapper_up true (Note k) p = (tt, (p, tt))

-- the framer
opening : (o : Option ℕ) → AllProper (framer.opening o)
opening None = (tt, tt)
opening (Some c) = tt

sent : (b : ℕ) → AllProper (framer.sent b)
sent b = cond_both (framer.special b) _ _ AllProper (λ _. (tt, (tt, tt))) (λ _. (tt, tt))

framer_down : (s : Option ℕ) (x : Item) → Proper x → AllProper ((framer.down_rule).does s x).ready
framer_down s (Byte b) p = joined (framer.opening s) _ (opening s) (sent b)
framer_down s End p = joined (framer.opening s) _ (opening s) (joined (framer.sent (framer.check_of s)) _ (sent (framer.check_of s)) (tt, (tt, tt)))
framer_down s (Note k) p = (p, tt)

abbrev Ready : Held Place → Type 0
Ready h = AllProper h.ready

note : (k : ℕ) → 0 < k → AllProper (framer.note k)
note k h = (h, tt)

ending : (bs : List ℕ) → AllProper (framer.ending bs)
ending bs = cond_both (framer.whole bs) _ _ AllProper (λ _. ended (take (length bs - 1) bs) (End ∷ []) (tt, tt)) (λ _. note 11 (omega arith))

join : (bs : List ℕ) (b : ℕ) → Ready (framer.joined bs b)
join bs b = cond_both (ltb (length bs) 1025) _ _ Ready (λ _. tt) (λ _. note 13 (omega arith))

framer_up : (s : Place) (x : Item) → Proper x → AllProper ((framer.up_rule).does s x).ready
framer_up hunting (Byte b) p = cond_both (eqb b 2) _ _ Ready (λ _. tt) (λ _. tt)
framer_up (body bs) (Byte b) p =
    cond_both (eqb b 2) _ _ Ready (λ _. note 12 (omega arith)) (λ _.
    cond_both (eqb b 3) _ _ Ready (λ _. ending bs) (λ _.
    cond_both (eqb b 16) _ _ Ready (λ _. tt) (λ _. join bs b)))
framer_up (escaped bs) (Byte b) p =
    cond_both (eqb b 66) _ _ Ready (λ _. join bs 2) (λ _.
    cond_both (eqb b 67) _ _ Ready (λ _. join bs 3) (λ _.
    cond_both (eqb b 80) _ _ Ready (λ _. join bs 16) (λ _.
    cond_both (eqb b 2) _ _ Ready (λ _. note 12 (omega arith)) (λ _. note 12 (omega arith)))))
framer_up hunting End p = tt
framer_up (body bs) End p = tt
framer_up (escaped bs) End p = tt
framer_up hunting (Note k) p = (p, tt)
framer_up (body bs) (Note k) p = (omega arith, (p, tt))
framer_up (escaped bs) (Note k) p = (omega arith, (p, tt))

-- the canonical discipline
abbrev Up : Both (List ℕ) → Type 0
Up h = AllProper h.ready

abbrev Echo : Both (List ℕ) → Type 0
Echo h = AllProper h.reply

canonical_up : (l : List ℕ) (x : Item) → Proper x → Up (canonical.typed l x)
canonical_up l (Byte b) p =
    cond_both (canonical.ends b) _ _ Up (λ _. ended l _ (tt, (tt, tt))) (λ _.
    cond_both (eqb b 8) _ _ Up (λ _. cond_both (eqb (length l) 0) _ _ Up (λ _. tt) (λ _. tt)) (λ _.
    cond_both (ltb (length l) 255) _ _ Up (λ _. tt) (λ _. tt)))
canonical_up l End p = cond_both (eqb (length l) 0) _ _ Up (λ _. tt) (λ _. ended l _ (tt, tt))
canonical_up l (Note k) p = (p, tt)

canonical_echo : (l : List ℕ) (x : Item) → Proper x → Echo (canonical.typed l x)
canonical_echo l (Byte b) p =
    cond_both (canonical.ends b) _ _ Echo (λ _. (tt, (tt, (tt, tt)))) (λ _.
    cond_both (eqb b 8) _ _ Echo (λ _. cond_both (eqb (length l) 0) _ _ Echo (λ _. tt) (λ _. (tt, (tt, (tt, (tt, tt)))))) (λ _.
    cond_both (ltb (length l) 255) _ _ Echo (λ _. (tt, (tt, tt))) (λ _. (tt, (tt, tt)))))
canonical_echo l End p = cond_both (eqb (length l) 0) _ _ Echo (λ _. tt) (λ _. tt)
canonical_echo l (Note k) p = tt

canonical_down : (s : Unit {0}) (x : Item) → Proper x → AllProper ((canonical.down_rule).does s x).ready
canonical_down s (Byte b) p = cond_both (eqb b 10) _ _ AllProper (λ _. (tt, (tt, tt))) (λ _. (tt, tt))
canonical_down s End p = (tt, tt)
canonical_down s (Note k) p = (p, tt)

pub notes_kept : NotesKept
notes_kept =
    record {
      mapper_up = from_state mapper.up_rule mapper_up false;
      mapper_down = from_state mapper.down_rule mapper_down tt;
      framer_up = from_state framer.up_rule framer_up hunting;
      framer_down = from_state framer.down_rule framer_down None;
      canonical_up = from_state (onward canonical.up_rule) canonical_up [];
      canonical_echo = from_state (back canonical.up_rule) canonical_echo [];
      canonical_down = from_state canonical.down_rule canonical_down tt;
    }

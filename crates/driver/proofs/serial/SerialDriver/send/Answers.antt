use Rattle.std.proofs.Common.{◌≡◌, refl, arith}
use Rattle.std.proofs.lemmas.Result.{err_from_is_err_and}
use Rattle.item.specs.declared.Refusal.TheVariants.{Nothing}
use Rattle.driver.proofs.Sending.{empty, stuck}
use Rattle.driver.proofs.serial.SerialDriver.send.Goals as goal

pub returns-in_err-x : goal.returns-in_err-x
returns-in_err-x g c =
    let p = err_from_is_err_and c.from_residual.result c.from_residual.ensures.1 in
    let none = c.in_err-x.ensures.ok_part in
    let why : c.in_err-x.field-0.0 ≡ Nothing = let e = c.in_err-x.ensures.value in grind arith in
    let u =
    empty _ _ _ c.choose-from.ensures.value c.first_of.ensures.leads none
    in
    rw (p.1, p.2, why) (record { sends = (u, refl) })

pub returns-in_err-bring_back : goal.returns-in_err-bring_back
returns-in_err-bring_back g c =
    let p = err_from_is_err_and c.from_residual-in_err-bring_back.result c.from_residual-in_err-bring_back.ensures.1 in
    let b = c.in_err-bring_back.ensures.comes in
    let u =
    stuck _ _ _ c.choose-from.ensures.value c.first_of.ensures.leads c.in_ok-x.x _ c.in_ok-x.ensures.ok_part b.0 b.1 b.2 b.3
    in
    rw (p.1, p.2) (record { sends = (u, b.4) })

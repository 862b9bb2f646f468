-- What holds of a result in one of its cases.
use Rattle.std.proofs.Common.{IfErr, IfOk, OnOk, Result, Ok, Err}
use Rattle.dump_io.specs.lines.Failing.{IsReading}
use Rattle.dump_io.specs.declared.lines.failure.Failure.{Failure}

pub on_ok : {A E : Type 0} (r : Result A E) (P Q : Type 0) → (P → Q) → OnOk r P → OnOk r Q
on_ok (Ok x) P Q f h = f h
on_ok (Err e) P Q f h = h

-- a failure of any kind
pub if_err_reading : {A : Type 0} (r : Result A Failure) (P : Type 0) → P → IfErr r (λ failure. IsReading failure → P)
if_err_reading (Ok x) P is = tt
if_err_reading (Err e) P is = λ reading. is

pub if_ok : {A E : Type 0} (r : Result A E) (P Q : A → Type 0) → ((x : A) → P x → Q x) → IfOk r P → IfOk r Q
if_ok (Ok x) P Q is p = is x p
if_ok (Err e) P Q is p = tt

pub in_ok : {A E : Type 0} (r : Result A E) (P : Type 0) → P → OnOk r P
in_ok (Ok x) P is = is
in_ok (Err e) P is = tt

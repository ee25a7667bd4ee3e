-- What functions give, against what is checked. Beside private functions alone.
use Rattle.std.specs.Prelude.{◌≡◌, true, List, Result, Ok, Err, Vec}
use denote.Ref.{Bor}
use Rattle.std.specs.declared.alloc.Global.{Global}
use Rattle.og_check.specs.declared.refusal.CheckRefusal.{CheckRefusal}
use Rattle.og_check.specs.Steps.{Checked, is_fault}

-- what a function gave is what is checked, unless memory ran out
abbrev pub Gives : {A : Type 0} → Result A CheckRefusal → Checked A → Type 0
Gives (Ok x) checked = checked ≡ Ok x
Gives (Err reason) checked = is_fault reason ≡ true → checked ≡ Err reason

-- what a function lent, as the value behind it
abbrev pub lent : {A : Type 0} → Result (Bor A) CheckRefusal → Result A CheckRefusal
lent (Ok x) = Ok x.now
lent (Err reason) = Err reason

-- what a function gave, as the list of its parts
abbrev pub listed : {A : Type 0} → Result (Vec A Global) CheckRefusal → Result (List A) CheckRefusal
listed (Ok xs) = Ok xs.items
listed (Err reason) = Err reason

-- what a function wrote, where it gave no fault
abbrev pub wrote : {A : Type 0} → A → Result (Unit {0}) CheckRefusal → Result A CheckRefusal
wrote x (Ok u) = Ok x
wrote x (Err reason) = Err reason

use Rattle.std.proofs.Common.{◌≡◌, ◌∙◌, ◌++◌, List, ℕ, ap, refl, string_bytes}
use Rattle.host_real.specs.Children.{take_input, time_text, memory_text, become}
use Rattle.host_real.proofs.child.script.Goals as goal

put_together : (first second third whole input time memory program t m : List ℕ) → first ≡ input → second ≡ first ++ t → t ≡ time → third ≡ second ++ m → m ≡ memory →
    whole ≡ third ++ program → whole ≡ input ++ time ++ memory ++ program
put_together first second third whole input time memory program t m begins more is_time rest is_memory ends = cc

pub returns : goal.returns
returns c = put_together (string_bytes c.in_ok-text.text) (string_bytes c.push_str.new.self) (string_bytes c.push_str-2.new.self) (string_bytes c.push_str-3.new.self)
    take_input (time_text c.args.limits.seconds) (memory_text c.args.limits.kib) become c.as_str.result.now c.as_str-2.result.now
    c.in_ok-text.ensures.ok
    c.in_ok-push_str.ensures.bytes (c.as_str.ensures.value ∙ c.in_ok-time_limit.ensures)
    c.in_ok-push_str-2.ensures.bytes (c.as_str-2.ensures.value ∙ c.in_ok-memory_limit.ensures)
    c.in_ok-push_str-3.ensures.bytes

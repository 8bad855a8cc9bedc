-- Worked rows: what scripts with queues and blocks of tasks write, to the byte.
use Rattle.std.specs.Prelude.{◌≡◌, List, [], ◌∷◌, Bool, true, false, ℕ, zero, suc, Option, Some, None, codes}
use Rattle.ac_syntax.specs.Code.{set_at, sum_at, loop_at, tasks_at, task_at, Code, stop, one, block}
use Rattle.ac_syntax.specs.declared.arg.Arg.{Arg}
use Rattle.ac_syntax.specs.declared.arg.Arg.TheVariants.{Var}
use Rattle.ac_syntax.specs.declared.decl.Decl.{Decl}
use Rattle.ac_syntax.specs.declared.decl.Decl.TheVariants as decl
use Rattle.ac_syntax.specs.declared.kind.Kind.{Kind}
use Rattle.ac_syntax.specs.declared.kind.Kind.TheVariants as kind
use Rattle.ac_syntax.specs.declared.kind.ElemKind.TheVariants.{Integer}
use Rattle.ac_syntax.specs.declared.script.Script.{Script}
use Rattle.ac_meaning.specs.Execution.{Orders, text_of, text_with}
use Rattle.ac_meaning.specs.Examples.{lines, number, called, gets, list_type, list, script}

abbrev pub queue_type : ℕ → (bounded : Bool) → Kind → Decl
queue_type line bounded which =
    decl.TypeDecl line (codes "q") (record { bounded = bounded; kind = which; first = Integer; second = None; keyed = false })

-- a queue a of the type on the line before
abbrev pub queue : ℕ → (capacity : Option ℕ) → Decl
queue line capacity = decl.Object line (codes "a") (codes "q") capacity

-- calls on it, without an argument, with one, and with a target
abbrev pub asks : ℕ → List ℕ → Code → Code
asks line word rest = one (called line (codes "a") word []) rest

abbrev pub puts : ℕ → Arg → Code → Code
puts line item rest = one (called line (codes "a") (codes "enqueue") (item ∷ [])) rest

abbrev pub takes : ℕ → List ℕ → Code → Code
takes line target rest = one (gets line target (codes "a") (codes "dequeue") []) rest

-- a task, and one with an integer x
abbrev pub task : ℕ → List ℕ → Code → Code → Code
task line name steps rest = block (task_at line name []) steps rest

abbrev pub counting : ℕ → List ℕ → Code → Code → Code
counting line name steps rest = block (task_at line name (decl.IntVar line (codes "x") ∷ [])) steps rest

-- the same order for each block
abbrev pub always : List ℕ → Orders
always order i = order

-- a call that would wait changes nothing and sets no target
abbrev pub QueuesStall : Type 0
QueuesStall =
    text_of (script (queue_type 1 true kind.Queue ∷ queue 2 (Some 2) ∷ decl.IntVar 3 (codes "n") ∷ [])
    (asks 4 (codes "dequeue")
    (puts 5 (number 4)
    (puts 6 (number 5)
    (puts 7 (number 6)
    (asks 8 (codes "print")
    (takes 9 (codes "n")
    (asks 10 (codes "current_use")
    (asks 11 (codes "peak_use")
    (asks 12 (codes "dequeue")
    (takes 13 (codes "n")
    (puts 14 (Var (codes "n"))
    (asks 15 (codes "print") stop)))))))))))))
    ≡ lines (codes "4: stalled" ∷ codes "5: ok" ∷ codes "6: ok" ∷ codes "7: stalled" ∷ codes "8: [4, 5]" ∷ codes "9: 4" ∷ codes "10: 1"
    ∷ codes "11: 2" ∷ codes "12: 5" ∷ codes "13: stalled" ∷ codes "14: ok" ∷ codes "15: [4]" ∷ [])

-- in a priority queue an item goes behind those of its own priority, and its front stays where that is too low
abbrev pub PrioritiesGoFirst : Type 0
PrioritiesGoFirst =
    text_of (script (queue_type 1 false kind.PriorityQueue ∷ queue 2 None ∷ [])
    (puts 3 (number 150)
    (puts 4 (number 210)
    (puts 5 (number 199)
    (one (called 6 (codes "a") (codes "dequeue_only_high_priority") (number 3 ∷ []))
    (asks 7 (codes "dequeue")
    (asks 8 (codes "print")
    (one (called 9 (codes "a") (codes "dequeue_only_high_priority") (number 1 ∷ [])) stop))))))))
    ≡ lines (codes "3: ok" ∷ codes "4: ok" ∷ codes "5: ok" ∷ codes "6: false" ∷ codes "7: 210" ∷ codes "8: [150, 199]" ∷ codes "9: 150" ∷ [])

-- tasks that all wait are told of in their order
abbrev pub AllTasksStall : Type 0
AllTasksStall =
    text_of (script (queue_type 1 false kind.Queue ∷ queue 2 None ∷ [])
    (block (tasks_at 3)
    (counting 4 (codes "t1") (takes 7 (codes "x") stop)
    (counting 9 (codes "t2") (takes 12 (codes "x") stop) stop))
    (asks 15 (codes "peak_use") stop)))
    ≡ lines (codes "7: t1: stalled" ∷ codes "12: t2: stalled" ∷ codes "15: 0" ∷ [])

-- one task puts 1 and 2 into a queue, the other takes two items out
abbrev pub passing : (limit : ℕ) → Code → Script
passing limit rest =
    script (queue_type 1 true kind.Queue ∷ queue 2 (Some limit) ∷ [])
    (block (tasks_at 3)
    (task 4 (codes "p") (puts 6 (number 1) (puts 7 (number 2) stop))
    (task 9 (codes "c") (asks 11 (codes "dequeue") (asks 12 (codes "dequeue") stop)) stop))
    rest)

-- through a queue of one item they go by turns, whatever the order
abbrev pub by_turns : List ℕ
by_turns =
    lines (codes "6: p: ok" ∷ codes "11: c: 1" ∷ codes "7: p: ok" ∷ codes "12: c: 2" ∷ codes "15: 1" ∷ codes "16: stalled" ∷ [])

abbrev pub OneItemGoesByTurns : Type 0
OneItemGoesByTurns =
    (text_of (passing 1 (asks 15 (codes "peak_use") (asks 16 (codes "dequeue") stop))) ≡ by_turns)
    × (text_with (always (1 ∷ 1 ∷ 0 ∷ 0 ∷ 0 ∷ 1 ∷ [])) (passing 1 (asks 15 (codes "peak_use") (asks 16 (codes "dequeue") stop))) ≡ by_turns)

-- with room for two the first task may go first
abbrev pub TwoItemsGoAsOrdered : Type 0
TwoItemsGoAsOrdered =
    (text_of (passing 2 stop) ≡ lines (codes "6: p: ok" ∷ codes "11: c: 1" ∷ codes "7: p: ok" ∷ codes "12: c: 2" ∷ []))
    × (text_with (always (0 ∷ 0 ∷ [])) (passing 2 stop) ≡ lines (codes "6: p: ok" ∷ codes "7: p: ok" ∷ codes "11: c: 1" ∷ codes "12: c: 2" ∷ []))

-- a sum outside the integers leaves its local, and what waits at the end leaves its queue
abbrev pub RaisedStepGoesOn : Type 0
RaisedStepGoesOn =
    text_of (script (queue_type 1 true kind.Queue ∷ queue 2 (Some 1) ∷ [])
    (block (tasks_at 3)
    (counting 4 (codes "t")
    (one (set_at 7 (codes "x") (number 9223372036854775807))
    (one (sum_at 8 (codes "x") (codes "x") false 1)
    (puts 9 (Var (codes "x"))
    (puts 10 (number 2) stop))))
    stop)
    (asks 13 (codes "dequeue") stop)))
    ≡ lines (codes "7: t: 9223372036854775807"
    ∷ codes "8: t: raised CONSTRAINT_ERROR (overflow)"
    ∷ codes "9: t: ok"
    ∷ codes "10: t: stalled"
    ∷ codes "13: 9223372036854775807" ∷ [])

-- each task has its own locals, which stand behind all names of tasks before it, and only a number goes into one
abbrev pub LocalsAreOwn : Type 0
LocalsAreOwn =
    text_of (script (queue_type 1 false kind.PriorityQueue ∷ queue 2 None ∷ decl.IntVar 3 (codes "n") ∷ [])
    (puts 4 (number 700)
    (block (tasks_at 5)
    (counting 6 (codes "u") (one (set_at 7 (codes "x") (number 40)) (puts 8 (Var (codes "x")) stop))
    (block (task_at 9 (codes "v") (decl.IntVar 10 (codes "x") ∷ decl.IntVar 11 (codes "y") ∷ []))
    (one (sum_at 12 (codes "y") (codes "x") true 3)
    (takes 13 (codes "x")
    (one (gets 14 (codes "x") (codes "a") (codes "dequeue_only_high_priority") (number 5 ∷ []))
    (puts 15 (Var (codes "x")) (puts 16 (Var (codes "y")) stop)))))
    stop))
    (asks 18 (codes "print") stop))))
    ≡ lines (codes "4: ok" ∷ codes "7: u: 40" ∷ codes "12: v: -3" ∷ codes "8: u: ok" ∷ codes "13: v: 700" ∷ codes "14: v: false"
    ∷ codes "15: v: ok" ∷ codes "16: v: ok" ∷ codes "18: [700, 40, -3]" ∷ [])

-- a task is told how many items are held, and how many at most were
abbrev pub UsesAreTold : Type 0
UsesAreTold =
    text_of (script (queue_type 1 false kind.Queue ∷ queue 2 None ∷ [])
    (block (tasks_at 3)
    (counting 4 (codes "t")
    (puts 7 (number 5)
    (puts 8 (number 6)
    (takes 9 (codes "x")
    (one (gets 10 (codes "x") (codes "a") (codes "current_use") [])
    (puts 11 (Var (codes "x"))
    (asks 12 (codes "dequeue")
    (one (gets 13 (codes "x") (codes "a") (codes "peak_use") [])
    (puts 14 (Var (codes "x"))
    (asks 15 (codes "current_use")
    (asks 16 (codes "peak_use") stop)))))))))) stop)
    (asks 19 (codes "print") stop)))
    ≡ lines (codes "7: t: ok" ∷ codes "8: t: ok" ∷ codes "9: t: 5" ∷ codes "10: t: 1" ∷ codes "11: t: ok" ∷ codes "12: t: 6"
    ∷ codes "13: t: 2" ∷ codes "14: t: ok" ∷ codes "15: t: 2" ∷ codes "16: t: 2" ∷ codes "19: [1, 2]" ∷ [])

-- a block runs anew in each turn of a loop, by an order of its own
abbrev pub in_turn : Orders
in_turn zero = []
in_turn (suc i) = 1 ∷ []

abbrev pub BlocksHaveOrders : Type 0
BlocksHaveOrders =
    text_with in_turn (script (queue_type 1 false kind.Queue ∷ queue 2 None ∷ list_type 3 Integer ∷ list 4 (codes "b") ∷ [])
    (one (called 5 (codes "b") (codes "append") (number 0 ∷ number 2 ∷ []))
    (block (loop_at 6 (codes "c") false false (codes "b"))
    (block (tasks_at 7)
    (task 8 (codes "u") (puts 9 (number 1) stop)
    (task 10 (codes "v") (puts 11 (number 2) stop) stop))
    stop)
    (asks 14 (codes "print") stop))))
    ≡ lines (codes "5: ok" ∷ codes "9: u: ok" ∷ codes "11: v: ok" ∷ codes "11: v: ok" ∷ codes "9: u: ok" ∷ codes "14: [1, 2, 2, 1]" ∷ [])

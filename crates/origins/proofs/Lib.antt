mod Declared
mod LoopParts
mod Among
mod Having
mod Merging
mod LoopsHave
mod RelationsHave
mod Different

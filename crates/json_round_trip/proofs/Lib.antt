pub mod Face
mod Spaced
mod Structure
mod Wrappers
mod Says
mod Framed
mod Walks
mod Deep
mod Within
mod Closed
mod Law
mod leaves

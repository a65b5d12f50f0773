mod Owners
mod Firsts
mod Started
mod Marked

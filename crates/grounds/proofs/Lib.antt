mod Refusals
mod Beginnings

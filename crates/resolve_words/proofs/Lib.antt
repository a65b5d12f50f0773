mod Numerals
mod CommandTaken
mod NoSamples
